-- What a command asks for, in the enums of the code. What REPORT ACL reads stands in the CDB, an AccessID and a list of pages in the parameter bytes, which are beside the enum.
use Rattle.std.specs.Prelude.{ℕ, List, Bool, true, false, cond, ltb, Result, Ok, Err}
use Rattle.lists.specs.Bytes.{be}
use Rattle.paper.specs.Orders.{Order, report_acl, request_token, manage_acl, disable, enroll, cancel, revoke, revoke_all, assign, release, no_action, Reading, wrong, order, length_field}
use Rattle.paper.specs.InForce.{in_force}
use Rattle.paper.specs.declared.answers.Condition.{Condition}
use Rattle.paper.specs.declared.answers.Condition.TheVariants.{InvalidField}
use Rattle.coordinator.specs.declared.reading.OutOrder.{OutOrder}
use Rattle.coordinator.specs.declared.reading.OutOrder.TheVariants.{Manage, Disable, Enroll, Cancel, Revoke, RevokeAll, Assign, Release, NoAction}
use Rattle.coordinator.specs.declared.reading.Command.{Command}
use Rattle.coordinator.specs.declared.reading.Command.TheVariants.{Report, Request, Out}

abbrev pub order_of : List ℕ → OutOrder → Order
order_of list Manage = manage_acl list
order_of list (Disable key) = disable key
order_of list Enroll = enroll list
order_of list Cancel = cancel
order_of list (Revoke n) = revoke n
order_of list (RevokeAll l) = revoke_all l
order_of list (Assign n l) = assign n l
order_of list (Release l) = release l
order_of list NoAction = no_action

abbrev pub read_of : List ℕ → Result OutOrder Condition → Reading
read_of list (Err k) = wrong k
read_of list (Ok o) = order (order_of list o)

-- while access controls are off, an order is itself or nothing
abbrev pub while_off : OutOrder → OutOrder
while_off Manage = Manage
while_off (Disable key) = NoAction
while_off Enroll = NoAction
while_off Cancel = NoAction
while_off (Revoke n) = NoAction
while_off (RevokeAll l) = NoAction
while_off (Assign n l) = Assign n l
while_off (Release l) = NoAction
while_off NoAction = NoAction

abbrev pub force_of : Bool → OutOrder → OutOrder
force_of true o = o
force_of false o = while_off o

-- REQUEST PROXY TOKEN among the IN commands: "allocation length under 8 (H)"
abbrev pub read_request : List ℕ → Reading
read_request cdb = cond (ltb (length_field cdb) 8) (wrong InvalidField) (order (request_token (be 8 cdb 2)))

-- ---- a command, of either operation code
abbrev pub meant_by : List ℕ → List ℕ → Result Command Condition → Reading
meant_by cdb list (Err k) = wrong k
meant_by cdb list (Ok Report) = order (report_acl (be 8 cdb 2) (length_field cdb))
meant_by cdb list (Ok (Request l)) = order (request_token l)
meant_by cdb list (Ok (Out o)) = order (order_of list o)

-- what is read, where it is in force
abbrev pub forced : Bool → Reading → Reading
forced on (wrong k) = wrong k
forced on (order o) = order (in_force on o)
