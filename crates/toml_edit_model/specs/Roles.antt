-- What a statement says of a path, which roles may meet, and tests of roles (TOML 1.1.0, "Keys",
-- "Table", "Inline Table" and "Array of Tables").
use Rattle.std.specs.Prelude.{Bool, true, false}

-- what a statement says of a path. `continued_role`: a header goes on in the last element
-- of an array there, and says no more.
pub data Role : Type 0 where
  dotted_role : Role
  implied_role : Role
  header_role : Role
  array_role : Role
  value_role : Role
  continued_role : Role

-- the earlier and the later role may meet at one path ("Keys", "Table" and "Array of Tables")
abbrev pub may_meet : Role → Role → Bool
may_meet continued_role _ = true
may_meet _ continued_role = true
may_meet dotted_role dotted_role = true
may_meet dotted_role implied_role = true
may_meet implied_role dotted_role = true
may_meet implied_role implied_role = true
may_meet implied_role header_role = true
may_meet header_role implied_role = true
may_meet array_role array_role = true
may_meet _ _ = false

-- those that may meet between pairs of one inline table ("Inline Table": it is whole where it is)
abbrev pub may_meet_inline : Role → Role → Bool
may_meet_inline dotted_role dotted_role = true
may_meet_inline _ _ = false

-- ---- tests

abbrev pub is_header_role : Role → Bool
is_header_role header_role = true
is_header_role _ = false

abbrev pub extends : Role → Bool
extends dotted_role = true
extends implied_role = true
extends _ = false

abbrev pub is_value_role : Role → Bool
is_value_role value_role = true
is_value_role _ = false

abbrev pub is_dotted_role : Role → Bool
is_dotted_role dotted_role = true
is_dotted_role _ = false

abbrev pub is_array_role : Role → Bool
is_array_role array_role = true
is_array_role _ = false

abbrev pub any_role : Role → Bool
any_role r = true

-- a mention ends a path: its segment is the last
abbrev pub ends_path : Role → Bool
ends_path value_role = true
ends_path header_role = true
ends_path array_role = true
ends_path _ = false
