-- What is known of a text once that it was read as a path, or was not.
use Rattle.std.proofs.Common.{◌≡◌, ℕ, ◌<◌, ◌≤◌, true, false, List, ◌∷◌, [], length, Result, Ok, Err, Some, refl, sym, ap, subst, ◌∙◌, inl, inr}
use Rattle.std.proofs.Common.{arith, rules}
use Rattle.std.specs.Prelude.{Contains, IfErr, IfOk}
use Rattle.std.proofs.lemmas.Bool.{false≢true}
use Rattle.std.proofs.lemmas.Bool.Decides.{nat_tests}
use Rattle.toml_edit_model.specs.Text.{Text, is_empty}
use Rattle.toml_edit_model.specs.Syntax.{Segment, is_short, nesting_limit}
use Rattle.toml_edit_model.specs.Tree.{Key}
use Rattle.toml_edit_model.specs.Messages.{IsSyntaxFault, syntax_messages}
use Rattle.toml_edit_model.specs.Lone.{IsLonePath, IsLongPath, MayRefusePath, lone_keys}
use Rattle.toml_edit_error.specs.Report.{Report, fault_of}
use Rattle.toml_edit_error.specs.Fault.{IfToml}
use Rattle.toml_edit_error.specs.declared.toml_error.ParseFault.{ParseFault}
use Rattle.toml_edit_error.specs.declared.toml_error.ParseFault.TheVariants.{Toml, Memory}
use Rattle.toml_edit_syntax.specs.declared.event.Event.{Event}
use Rattle.toml_edit_syntax.specs.LonePath.{ArePathEvents, IsPathText}
use Rattle.toml_edit_syntax.specs.ValueEvents.{path_events}
use Rattle.toml_edit_parser.specs.ReadKeys.{AreLoneKeys, GivesValue, limit_fault}
use Rattle.toml_edit_parser.proofs.PairLaws.{path_count, path-some}

-- ---- a path, and how long it is

pub of_lone : (t before : Text) (p : List Segment) (after : Text) → IsLonePath t before p after → IsPathText t before p after
of_lone t before p after l =
    record { parts = l.parts; path = l.path; spaced = l.spaced; white_before = l.white_before; white_after = l.white_after }

pub of_long : (t before : Text) (p : List Segment) (after : Text) → IsLongPath t before p after → IsPathText t before p after
of_long t before p after l =
    record { parts = l.parts; path = l.path; spaced = l.spaced; white_before = l.white_before; white_after = l.white_after }

short_of : (p : List Segment) (start : ℕ) → is_empty p ≡ false → length (path_events start p) ≤ 238 → is_short p ≡ true
short_of [] start some few = refl
short_of (s ∷ p) start some few =
    let n = path_count s p start in
    let short : length (s ∷ p) ≤ nesting_limit = omega (arith, n, few) in
    grind (arith, nat_tests, short)

long_of : (p : List Segment) (start : ℕ) → is_empty p ≡ false → 238 < length (path_events start p) → is_short p ≡ false
long_of [] start some many = absurd cc
long_of (s ∷ p) start some many =
    let n = path_count s p start in
    let long : nesting_limit < length (s ∷ p) = omega (arith, n, many) in
    grind (arith, nat_tests, long)

-- ---- answers

module _ (t before after : Text) (es : List Event) (are : ArePathEvents t before es after) where
  some : is_empty are.path ≡ false
  some = path-some are.path are.is.path

  -- every path of the text is that one
  same_short : (b : Text) (p : List Segment) (a : Text) → IsPathText t b p a → is_short p ≡ is_short are.path
  same_short b p a is = ap is_short (are.only b p a is).1

  -- a path that is too long
  module _ (many : 238 < length es) where
    long : is_short are.path ≡ false
    long = long_of are.path (length before) some (subst (λ (x : List Event). 238 < length x) are.events many)

    pub not_lone : (b : Text) (p : List Segment) (a : Text) → IsLonePath t b p a → ⊥
    not_lone b p a l = false≢true (sym long ∙ sym (same_short b p a (of_lone t b p a l)) ∙ l.short)

    pub long_refused : (e : ParseFault) → IfToml e (λ r. r ≡ limit_fault t)
        → IfToml e (λ r. MayRefusePath t (fault_of r) × (r.input ≡ t))
    long_refused (Toml r) h = (
      inl (
        ap fault_of h,
        (
          before,
          are.path,
          after,
          record {
            parts = are.is.parts;
            path = are.is.path;
            spaced = are.is.spaced;
            white_before = are.is.white_before;
            white_after = are.is.white_after;
            long = long;
          },
        ),
      ),
      ap (λ (x : Report). x.input) h,
    )
    long_refused Memory h = tt

  -- a path that isn't, of which these are the keys, unless memory ran out
  module _ (few : length es ≤ 238) {V : Type 0} (view : V → List Key) (r : Result V ParseFault)
      (told : (p : List Segment) → IsPathText t before p after → GivesValue view r (lone_keys before p after)) where
    short : is_short are.path ≡ true
    short = short_of are.path (length before) some (subst (λ (x : List Event). length x ≤ 238) are.events few)

    gave : GivesValue view r (lone_keys before are.path after)
    gave = told are.path are.is

    pub gave_keys : IfOk r (λ v. AreLoneKeys t (view v))
    gave_keys = by r gave
      where
        by : (r : Result V ParseFault) → GivesValue view r (lone_keys before are.path after) → IfOk r (λ v. AreLoneKeys t (view v))
        by (Ok v) same = (
          before,
          are.path,
          after,
          record {
            parts = are.is.parts;
            path = are.is.path;
            spaced = are.is.spaced;
            white_before = are.is.white_before;
            white_after = are.is.white_after;
            short = short;
          },
          same,
        )
        by (Err e) same = tt

    pub gave_every : (b : Text) (p : List Segment) (a : Text) → IsLonePath t b p a → GivesValue view r (lone_keys b p a)
    gave_every b p a l =
        let same = are.only b p a (of_lone t b p a l) in
        let keys : lone_keys b p a ≡ lone_keys before are.path after = ap (λ (x : Text). lone_keys x p a) same.0
        ∙ ap (λ (x : List Segment). lone_keys before x a) same.1 ∙ ap (λ (x : Text). lone_keys before are.path x) same.2 in
        subst (GivesValue view r) (sym keys) gave

    pub gave_long : (b : Text) (p : List Segment) (a : Text) → IsLongPath t b p a → ⊥
    gave_long b p a l = false≢true (sym l.long ∙ same_short b p a (of_long t b p a l) ∙ short)

    pub gave_refused : IfErr r (λ e. IfToml e (λ x. MayRefusePath t (fault_of x) × (x.input ≡ t)))
    gave_refused = by r gave
      where
        by : (r : Result V ParseFault) → GivesValue view r (lone_keys before are.path after)
            → IfErr r (λ e. IfToml e (λ x. MayRefusePath t (fault_of x) × (x.input ≡ t)))
        by (Ok v) same = tt
        by (Err e) same = subst (λ (x : ParseFault). IfToml x (λ x. MayRefusePath t (fault_of x) × (x.input ≡ t))) (sym same) tt

-- ---- errors

-- an error that never has a report
pub memory_alone : (e : ParseFault) → IfToml e (λ r. ⊥) → e ≡ Memory
memory_alone (Toml r) h = absurd h
memory_alone Memory h = refl

-- an error with one of the messages, and a span
pub marked : (t m : Text) (s : ℕ × ℕ) (e : ParseFault) → Contains syntax_messages m
    → IfToml e (λ r. r ≡ record { message = m; span = Some s; input = t })
    → IfToml e (λ r. IsSyntaxFault (fault_of r) × (r.input ≡ t))
marked t m s (Toml r) is h =
    subst (λ (x : Report). IsSyntaxFault (fault_of x) × (x.input ≡ t)) (sym h) (record { message = is; span = search rules }, refl)
marked t m s Memory is h = tt

pub marked_path : (t m : Text) (s : ℕ × ℕ) (e : ParseFault) → Contains syntax_messages m
    → IfToml e (λ r. r ≡ record { message = m; span = Some s; input = t })
    → IfToml e (λ r. MayRefusePath t (fault_of r) × (r.input ≡ t))
marked_path t m s (Toml r) is h = let k = marked t m s (Toml r) is h in (inr k.0, k.1)
marked_path t m s Memory is h = tt
