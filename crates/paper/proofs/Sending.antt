-- A shelf and the bytes that its initiators send, for the worked cases.
use Prim.Native.Nat.{ℕ, ◌+◌, ◌*◌}
use mathlib.Core.List.{List, [], ◌∷◌, ◌++◌}
use lib.ListN.{length, replicate}
use Rattle.lists.specs.Lists.{gather}
use Rattle.lists.specs.Bytes.{be_bytes}
use Rattle.wire.specs.Lun.{lun_of}
use Rattle.paper.specs.Runs.{Statement, command, link, Sent}

-- ---- one initiator, TransportID all zero; units 0, 1 and 2 at the default LUNs 5, 6 and 7
abbrev pub transport : List ℕ
transport = replicate 24 0

abbrev pub access : List ℕ
access = replicate 24 9

abbrev pub shelf : List ℕ
shelf = gather (λ nn. be_bytes 8 (lun_of nn)) (5 ∷ (6 ∷ (7 ∷ [])))

-- one unit at 5
abbrev pub small : List ℕ
small = be_bytes 8 (lun_of 5)

-- ---- pages and lists
-- a LUACD for a LUN, given as its eight bytes in one number, and a default LUN
abbrev pub luacd_at : ℕ → ℕ → List ℕ
luacd_at lun nn = replicate 4 0 ++ (be_bytes 8 lun ++ be_bytes 8 (lun_of nn))

-- a LUACD for a LUN and a unit of the shelf
abbrev pub luacd : ℕ → ℕ → List ℕ
luacd nn u = luacd_at (lun_of nn) (5 + u)

abbrev pub grant : ℕ → List ℕ → List (List ℕ) → List ℕ
grant type id ds =
    (0 ∷ (0 ∷ be_bytes 2 (28 + 20 * length ds))) ++ ((0 ∷ (type ∷ be_bytes 2 24)) ++ (id ++ gather (λ d. d) ds))

-- all keys are zero; the generation is 0 disabled, 1 enabled
abbrev pub manage : ℕ → List (List ℕ) → List ℕ
manage generation pages = replicate 24 0 ++ (be_bytes 4 generation ++ gather (λ p. p) pages)

-- ---- statements of initiator 0
abbrev pub out_of : ℕ → List ℕ → Statement
out_of action list =
    command 0 ((0x87 ∷ (action ∷ replicate 8 0)) ++ (be_bytes 4 (length list) ++ (0 ∷ (0 ∷ [])))) list 0

-- REQUEST PROXY TOKEN for a LUN, with a random number
abbrev pub request_of : ℕ → ℕ → Statement
request_of nn random =
    command 0 ((0x86 ∷ (0x04 ∷ be_bytes 8 (lun_of nn))) ++ (be_bytes 4 8 ++ (0 ∷ (0 ∷ [])))) [] random

-- ASSIGN PROXY LUN for a token and a LUN, given as its eight bytes in one number
abbrev pub assign_of : ℕ → ℕ → Statement
assign_of n lun = out_of 0x09 (be_bytes 8 n ++ be_bytes 8 lun)

abbrev pub out : ℕ → List ℕ → Sent
out action list = record { statement = out_of action list; room = 0 }

abbrev pub linked : Sent
linked = record { statement = link 0; room = 0 }
