-- What an order is while access controls are on, or off, and what it puts into effect where it is answered GOOD. Nothing here reads a table, so that the history can be read by the same definitions.
use Rattle.std.specs.Prelude.{ℕ, List, [], ◌∷◌, Bool, true, false, cond}
use Rattle.paper.specs.Identifiers.{kept}
use Rattle.paper.specs.Orders.{Order, report_acl, request_token, manage_acl, disable, enroll, cancel, revoke, revoke_all, assign, release, no_action}
use Rattle.paper.specs.Effects.{turned_off, joined, left, link_event, own, named, issued, ended, assigned, released, Effect, switched, enrolling, tokening, proxying}
use Rattle.paper.specs.Pages.{manage_effects}
use Rattle.paper.specs.declared.state.IdType.TheVariants.{AccessId}

-- "Disabled: .. REPORT ACL ignores the key and gives its header; IN 04h is GOOD with 0 bytes; 09h is 20h/0Ah; every other OUT but MANAGE ACL is GOOD, no action (H)." An ASSIGN stays in force, and finds no live token
unfoldable pub in_force : Bool → Order → Order
in_force true o = o
in_force false (report_acl key room) = report_acl key room
in_force false (request_token l) = no_action
in_force false (manage_acl list) = manage_acl list
in_force false (disable key) = no_action
in_force false (enroll id) = no_action
in_force false cancel = no_action
in_force false (revoke n) = no_action
in_force false (revoke_all l) = no_action
in_force false (assign n l) = assign n l
in_force false (release l) = no_action
in_force false no_action = no_action

-- what an order in force puts into effect, from the units' default LUNs, whether access controls are on, the initiator and the random number
unfoldable pub effects : List ℕ → Bool → ℕ → ℕ → Order → List Effect
effects luns on i random (report_acl key room) = []
effects luns on i random (request_token l) = tokening (issued i l random) ∷ []
effects luns on i random (manage_acl list) = manage_effects luns on list
effects luns on i random (disable key) = switched turned_off ∷ []
effects luns on i random (enroll id) = enrolling (joined i (kept AccessId id)) ∷ []
effects luns on i random cancel = enrolling (left i) ∷ []
effects luns on i random (revoke n) = tokening (ended (own i n)) ∷ []
effects luns on i random (revoke_all l) = tokening (ended (named i l)) ∷ []
effects luns on i random (assign n l) = proxying (assigned i l n) ∷ []
effects luns on i random (release l) = proxying (released i l) ∷ []
effects luns on i random no_action = []

-- "A link event told by the host turns that initiator from enrolled to pending (H)."
abbrev pub link_effects : Bool → ℕ → List Effect
link_effects on i = cond on (enrolling (link_event i) ∷ []) []
