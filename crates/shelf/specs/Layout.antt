-- The sizes and offsets of what crosses, in bytes, in the order of the table in include/oberkosz.h: of each struct its size, then where its fields stand.
use Rattle.std.specs.Prelude.{ℕ, List, [], ◌∷◌, ◌++◌}

-- lun, unit
abbrev pub luacd : List ℕ
luacd = 4 ∷ 0 ∷ 2 ∷ []

-- kind, extent, id, count, luacds
abbrev pub ace : List ℕ
ace = 104 ∷ 0 ∷ 1 ∷ 2 ∷ 32 ∷ 40 ∷ []

-- count, items
abbrev pub acl : List ℕ
acl = 3336 ∷ 0 ∷ 8 ∷ []

-- number, unit, requester, lun
abbrev pub token : List ℕ
token = 16 ∷ 0 ∷ 8 ∷ 9 ∷ 10 ∷ []

-- count, items
abbrev pub tokens : List ℕ
tokens = 520 ∷ 0 ∷ 8 ∷ []

-- initiator, lun, token
abbrev pub proxy_lun : List ℕ
proxy_lun = 16 ∷ 0 ∷ 2 ∷ 8 ∷ []

-- count, items
abbrev pub proxy_luns : List ℕ
proxy_luns = 520 ∷ 0 ∷ 8 ∷ []

-- count, ids, enrolments
abbrev pub initiators : List ℕ
initiators = 792 ∷ 0 ∷ 8 ∷ 392 ∷ []

-- count, luns
abbrev pub units : List ℕ
units = 72 ∷ 0 ∷ 8 ∷ []

-- enabled, generation, key, initiators, units, acl, tokens, proxies
abbrev pub state : List ℕ
state = 5256 ∷ 0 ∷ 4 ∷ 8 ∷ 16 ∷ 808 ∷ 880 ∷ 4216 ∷ 4736 ∷ []

-- status, number, sense
abbrev pub values : List ℕ
values = 20 ∷ 0 ∷ 1 ∷ 2 ∷ []

-- state, values, delivered
abbrev pub outcome : List ℕ
outcome = 5288 ∷ 0 ∷ 5256 ∷ 5280 ∷ []

-- unit, values
abbrev pub opening : List ℕ
opening = 21 ∷ 0 ∷ 1 ∷ []

abbrev pub layout : List ℕ
layout = luacd ++ (ace ++ (acl ++ (token ++ (tokens ++ (proxy_lun ++ (proxy_luns ++ (initiators ++ (units ++ (state ++ (values ++ (outcome ++ opening)))))))))))
