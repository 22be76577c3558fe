-- "Order: operation code, service action, lengths, then as each command says." What a command's bytes ask for, or the condition that they meet first.
use Rattle.std.specs.Prelude.{ℕ, ◌%◌, List, cond, length, get_or, eqb, ltb}
use Rattle.lists.specs.Bytes.{be}
use Rattle.paper.specs.Sizes.{id_size}
use Rattle.paper.specs.declared.answers.Condition.{Condition}
use Rattle.paper.specs.declared.answers.Condition.TheVariants.{OtherOperation, InvalidField, WrongLength}

-- "What the first release holds"; a LUN is its eight bytes as one number
pub data Order : Type 0 where
  report_acl : ℕ → ℕ → Order  -- key, allocation length
  request_token : ℕ → Order  -- LUN
  manage_acl : List ℕ → Order  -- the list
  disable : ℕ → Order  -- key
  enroll : List ℕ → Order  -- AccessID
  cancel : Order
  revoke : ℕ → Order  -- token
  revoke_all : ℕ → Order  -- LUN
  assign : ℕ → ℕ → Order  -- token, LUN
  release : ℕ → Order  -- LUN
  no_action : Order  -- an OUT list of length 0

pub data Reading : Type 0 where
  wrong : Condition → Reading
  order : Order → Reading

-- bits 0 to 4 of byte 1
abbrev pub service_action : List ℕ → ℕ
service_action cdb = get_or cdb 1 0 % 32

-- "allocation length in 10-13" of IN, and the list's length there of OUT
abbrev pub length_field : List ℕ → ℕ
length_field cdb = be 4 cdb 10

-- "REQUEST PROXY TOKEN with allocation length under 8 (H)"
unfoldable pub read_in : List ℕ → Reading
read_in cdb =
    cond (eqb (service_action cdb) 0x00) (order (report_acl (be 8 cdb 2) (length_field cdb)))
    (cond (eqb (service_action cdb) 0x04) (cond (ltb (length_field cdb) 8) (wrong InvalidField) (order (request_token (be 8 cdb 2))))
    (wrong InvalidField))

-- "length 0 is GOOD with no action"; "Otherwise H, exactly .."
unfoldable pub exactly : ℕ → List ℕ → Order → Reading
exactly n list o =
    cond (eqb (length list) 0) (order no_action) (cond (eqb (length list) n) (order o) (wrong WrongLength))

-- "MANAGE ACL at least 28"
unfoldable pub read_manage : List ℕ → Reading
read_manage list =
    cond (eqb (length list) 0) (order no_action) (cond (ltb (length list) 28) (wrong WrongLength) (order (manage_acl list)))

-- "except for CANCEL where 0 is the only length"
unfoldable pub read_cancel : List ℕ → Reading
read_cancel list = cond (eqb (length list) 0) (order cancel) (wrong InvalidField)

-- "exactly 12 (DISABLE, key in 4-11), 24 (ENROLL), 8 (07h token; 08h and 0Ah LUN), 16 (09h, token then LUN)"; "All others: 24h/00h."
unfoldable pub read_out : ℕ → List ℕ → Reading
read_out action list =
    cond (eqb action 0x00) (read_manage list)
    (cond (eqb action 0x01) (exactly 12 list (disable (be 8 list 4)))
    (cond (eqb action 0x02) (exactly id_size list (enroll list))
    (cond (eqb action 0x03) (read_cancel list)
    (cond (eqb action 0x07) (exactly 8 list (revoke (be 8 list 0)))
    (cond (eqb action 0x08) (exactly 8 list (revoke_all (be 8 list 0)))
    (cond (eqb action 0x09) (exactly 16 list (assign (be 8 list 0) (be 8 list 8)))
    (cond (eqb action 0x0A) (exactly 8 list (release (be 8 list 0)))
    (wrong InvalidField))))))))

abbrev pub op_in : ℕ
op_in = 0x86

abbrev pub op_out : ℕ
op_out = 0x87

abbrev pub operation : List ℕ → ℕ
operation cdb = get_or cdb 0 0

-- "20h/00h: operation code other than 86h, 87h"
unfoldable pub reading_of : List ℕ → List ℕ → Reading
reading_of cdb list =
    cond (eqb (operation cdb) op_in) (read_in cdb)
    (cond (eqb (operation cdb) op_out) (read_out (service_action cdb) list)
    (wrong OtherOperation))
