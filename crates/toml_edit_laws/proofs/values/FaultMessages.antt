-- Each fault of a value has one of the messages of faults.
use Rattle.std.proofs.Common.{refl, ℕ, suc, ◌+◌, Bool, true, false, List, [], ◌∷◌, ◌++◌, length, Option, Some, None, inl, inr}
use Rattle.std.specs.Prelude.{Contains, ◌==◌, ◌&&◌, if◌then◌else◌}
use Rattle.std.specs.List.{AllByRecursion}
use Rattle.toml_edit_model.specs.Text.{Text}
use Rattle.toml_edit_model.specs.Scalars.{Scalar, string, integer, float, boolean, datetime}
use Rattle.toml_edit_model.specs.Spelling.{is_in_range}
use Rattle.toml_edit_model.specs.Syntax.{Segment, Value, scalar, array, inline_table, Elements, no_elements, element, Pairs, no_pairs, pair}
use Rattle.toml_edit_model.specs.Syntax.{value_text, frame_text, path_text, is_short, nesting_limit}
use Rattle.toml_edit_model.specs.Paths.{Mention, PairSource, pair_mentions}
use Rattle.toml_edit_model.specs.Faults.{Fault, fault, type_name, first_clash, duplicate_key, cannot_extend, clash_message, is_inline}
use Rattle.toml_edit_model.specs.Faults.{pair_clash, pair_clashes, recursion_limit, long_path, deep_bracket, range_message, value_faults}
use Rattle.toml_edit_model.specs.Faults.{elements_faults, pairs_faults}
use Rattle.toml_edit_model.specs.Messages.{fault_messages}
use Rattle.toml_edit_laws.proofs.common.Each.{all-append}
use Rattle.toml_edit_laws.proofs.common.Members.{Among, to-contained}
use Rattle.toml_edit_model.specs.Roles.{may_meet_inline, extends, is_value_role}

abbrev pub IsFaultMessage : Fault → Type 0
IsFaultMessage f = Contains fault_messages f.message

known : (t : Text) → Among t fault_messages → Contains fault_messages t
known t h = to-contained t fault_messages h

duplicate-known : Contains fault_messages duplicate_key
duplicate-known = known duplicate_key (inl refl)

limit-known : Contains fault_messages recursion_limit
limit-known = known recursion_limit (inr (inr (inr (inl refl))))

range-known : (s : Scalar) → Contains fault_messages (range_message s)
range-known (integer z) = known (range_message (integer z)) (inr (inl refl))
range-known (string v) = known (range_message (string v)) (inr (inr (inl refl)))
range-known (float v) = known (range_message (float v)) (inr (inr (inl refl)))
range-known (boolean v) = known (range_message (boolean v)) (inr (inr (inl refl)))
range-known (datetime v) = known (range_message (datetime v)) (inr (inr (inl refl)))

type-known : (v : Value) → Contains fault_messages (cannot_extend (type_name v))
type-known (scalar (string x) t) = known _ (inr (inr (inr (inr (inl refl)))))
type-known (scalar (integer x) t) = known _ (inr (inr (inr (inr (inr (inl refl))))))
type-known (scalar (float x) t) = known _ (inr (inr (inr (inr (inr (inr (inl refl)))))))
type-known (scalar (boolean x) t) = known _ (inr (inr (inr (inr (inr (inr (inr (inl refl))))))))
type-known (scalar (datetime x) t) = known _ (inr (inr (inr (inr (inr (inr (inr (inr (inl refl)))))))))
type-known (array es comma t) = known _ (inr (inr (inr (inr (inr (inr (inr (inr (inr (inl refl))))))))))
type-known (inline_table ps comma t) = known _ (inr (inr (inr (inr (inr (inr (inr (inr (inr (inr (inl refl)))))))))))

-- one fault, or none
one-known : (b : Bool) (f : Fault) → IsFaultMessage f → AllByRecursion IsFaultMessage (if b then [] else f ∷ [])
one-known true f h = tt
one-known false f h = (h, tt)

some-known : (b : Bool) (f : Fault) → IsFaultMessage f → AllByRecursion IsFaultMessage (if b then f ∷ [] else [])
some-known true f h = (h, tt)
some-known false f h = tt

either-known : (b : Bool) (t u : Text) → Contains fault_messages t → Contains fault_messages u
    → Contains fault_messages (if b then t else u)
either-known true t u h g = h
either-known false t u h g = g

clash-known : (o : Option (Mention PairSource × Mention PairSource)) → AllByRecursion IsFaultMessage (pair_clash o)
clash-known None = tt
clash-known (Some (m, e)) = (
  either-known (is_inline e.source.value) duplicate_key (clash_message e.role m.role (type_name e.source.value)) duplicate-known
      (either-known (is_value_role e.role && extends m.role) (cannot_extend (type_name e.source.value)) duplicate_key
      (type-known e.source.value) duplicate-known),
  tt,
)

clashes-known : (earlier : List (Mention PairSource)) (mss : List (List (Mention PairSource)))
    → AllByRecursion IsFaultMessage (pair_clashes earlier mss)
clashes-known earlier [] = tt
clashes-known earlier (m ∷ rest) =
    all-append IsFaultMessage (pair_clash (first_clash may_meet_inline earlier m)) (pair_clashes (earlier ++ m) rest)
    (clash-known (first_clash may_meet_inline earlier m)) (clashes-known (earlier ++ m) rest)

bracket-known : (level start : ℕ) → AllByRecursion IsFaultMessage (deep_bracket level start)
bracket-known level start = some-known (level == nesting_limit) (fault recursion_limit start 1) limit-known

path-known : (p : List Segment) → AllByRecursion IsFaultMessage (long_path p)
path-known p = one-known (is_short p) (record { message = recursion_limit; span = None }) limit-known

mutual
  -- Each fault of a value has one of these messages.
  pub value-messages : (v : Value) (start level : ℕ) → AllByRecursion IsFaultMessage (value_faults v start level)
  value-messages (scalar s t) start level = one-known (is_in_range s t) (fault (range_message s) start (length t)) (range-known s)
  value-messages (array es comma t) start level =
      all-append IsFaultMessage (deep_bracket level start) (elements_faults es (start + 1) (suc level)) (bracket-known level start)
      (elements-messages es (start + 1) (suc level))
  value-messages (inline_table ps comma t) start level =
      let clashes = pair_clashes [] (pair_mentions (start + 1) ps) in
      let inner = pairs_faults ps (start + 1) (suc level) in
      all-append IsFaultMessage (deep_bracket level start) (clashes ++ inner) (bracket-known level start)
      (all-append IsFaultMessage clashes inner (clashes-known [] (pair_mentions (start + 1) ps)) (pairs-messages ps (start
      + 1) (suc level)))

  elements-messages : (es : Elements) (start level : ℕ) → AllByRecursion IsFaultMessage (elements_faults es start level)
  elements-messages no_elements start level = tt
  elements-messages (element a v es) start level =
      let next = start + length a.before + length (value_text v) + length a.after + 1 in
      all-append IsFaultMessage (value_faults v (start + length a.before) level) (elements_faults es next level)
      (value-messages v (start + length a.before) level) (elements-messages es next level)

  pairs-messages : (ps : Pairs) (start level : ℕ) → AllByRecursion IsFaultMessage (pairs_faults ps start level)
  pairs-messages no_pairs start level = tt
  pairs-messages (pair f v ps) start level =
      let at = start + length f.leading + length (path_text f.path) + length f.before_equals + 1 + length f.after_equals in
      let next = start + length (frame_text f (value_text v)) + 1 in
      all-append IsFaultMessage (long_path f.path) (value_faults v at level ++ pairs_faults ps next level) (path-known f.path)
      (all-append IsFaultMessage (value_faults v at level) (pairs_faults ps next level) (value-messages v at level)
      (pairs-messages ps next level))
