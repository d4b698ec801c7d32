-- A lone value in a version of TOML.
use Rattle.std.proofs.Common.{◌≡◌, inl, inr, refl, sym, ap, ◌∙◌, subst, ◌-◌, ◌≤◌, arith, true, false, Bool, List, length, Some}
use Rattle.std.specs.Prelude.{◌&&◌, nat_le, Contains, Result, Ok, Err, IfErr, IfOk}
use Rattle.std.proofs.lemmas.Bool.Decides.{nat_tests}
use Rattle.std.proofs.lemmas.List.Elements.{Contains-append_left, Contains-append_right}
use Rattle.toml_edit_model.specs.Text.{Text}
use Rattle.toml_edit_model.specs.Syntax.{Value, depth, nesting_limit, has_short_keys, keeps_ranges}
use Rattle.toml_edit_model.specs.Version.{Version, v1_0, is_value_of, late_value}
use Rattle.toml_edit_model.specs.Accepted.{has_agreeing_pairs}
use Rattle.toml_edit_model.specs.Faults.{needs_message, late_value_faults, value_faults}
use Rattle.toml_edit_model.specs.Lone.{IsLoneValue, is_accepted_value, is_accepted_value_in}
use Rattle.toml_edit_model.specs.Tree.{Node}
use Rattle.toml_edit_laws.proofs.common.Tests.{and_left, and_right}
use Rattle.toml_edit_laws.proofs.versions.LateValues.{late_value_fault, not_value_of}
use Rattle.toml_edit_error.specs.Report.{Report, fault_of}
use Rattle.toml_edit_error.specs.Fault.{IfToml}
use Rattle.toml_edit_error.specs.declared.toml_error.ParseFault.{ParseFault}
use Rattle.toml_edit_error.specs.declared.toml_error.ParseFault.TheVariants.{Toml, Memory}
use Rattle.toml_edit_syntax.specs.declared.event.Event.{Event}
use Rattle.toml_edit_syntax.specs.declared.event.Span.{Span}
use Rattle.toml_edit_syntax.specs.Events.{IsSpanOf, exceeds_depth}
use Rattle.toml_edit_syntax.specs.LoneEvents.{AreLoneEvents}
use Rattle.toml_edit_syntax.specs.ValueEvents.{are_deep}
use Rattle.toml_edit_tree.specs.declared.value.Value as code
use Rattle.toml_edit_tree.specs.View.{value_view}
use Rattle.toml_edit_parser.proofs.LoneValueLaws.{either}
use Rattle.toml_edit_parser.proofs.ReadLaws.{within_depth}
use Rattle.toml_edit_parser.proofs.ListedLaws.{report_in}
use Rattle.toml_edit_parser.specs.LoneValue.{IsLoneReading, IsLoneReadingIn, IsLoneRefusal, IsLoneRefusalIn}
use Rattle.toml_edit_parser.specs.Listed.{IsErrorIn}

-- ---- accepted in a version

pub accepted_of_all : (version : Version) (v : Value) → is_accepted_value_in version v ≡ true → is_accepted_value v ≡ true
accepted_of_all version v h = and_right (is_value_of version v) (is_accepted_value v) h

wrong_in : (version : Version) (v : Value) → is_accepted_value v ≡ false → is_accepted_value_in version v ≡ false
wrong_in version v h = by_test (is_value_of version v)
  where
    by_test : (b : Bool) → (b && is_accepted_value v) ≡ false
    by_test true = h
    by_test false = refl

-- what is accepted has few brackets in one another
shallow : (v : Value) → is_accepted_value v ≡ true → exceeds_depth v ≡ false
shallow v h =
    let few = nat_le (depth v) nesting_limit in
    let left = and_left ((few && has_short_keys v) && keeps_ranges v) (has_agreeing_pairs v) h in
    within_depth v (fits (and_left few (has_short_keys v) (and_left (few && has_short_keys v) (keeps_ranges v) left)))
  where
    fits : nat_le (depth v) nesting_limit ≡ true → depth v ≤ nesting_limit
    fits e = grind (arith, nat_tests)

-- ---- what TOML 1.1 answers, in a version

module _ (version : Version) (t : Text) where
  pub reading_in : (es : List Event) (n : Node) → AreLoneEvents t es
      → ((v : Value) → IsLoneValue t v → are_deep es ≡ false → is_value_of version v ≡ true) → IsLoneReading t n
      → IsLoneReadingIn version t n
  reading_in es n are passed h =
      record {
        value = h.value;
        lone = h.lone;
        accepted = ap (λ b. b && is_accepted_value h.value) (passed h.value h.lone (are.deep h.value h.lone ∙ shallow h.value h.accepted))
            ∙ h.accepted;
        only = h.only;
        item = h.item;
      }

  refusal_in : (r : Report) → IsLoneRefusal t r → IsLoneRefusalIn version t r
  refusal_in r h =
      record {
        input = h.input;
        listed = report_in version r h.listed;
        names =
            record {
              names = λ v lone.
                  Contains-append_right (late_value_faults version (length lone.before) v) (value_faults v (length lone.before) 0)
                  (fault_of r)
                  (h.names.names v lone);
              allowed = (report_in version r h.listed).allowed;
            };
        syntax = h.syntax;
        refused = λ v lone. wrong_in version v (h.refused v lone);
      }

  pub fault_in : (e : ParseFault) → IfToml e (IsLoneRefusal t) → IfToml e (IsLoneRefusalIn version t)
  fault_in (Toml r) h = refusal_in r h
  fault_in Memory h = tt

  -- the answers of a call, in the version
  pub read_in : (es : List Event) (r : Result code.Value ParseFault) → AreLoneEvents t es
      → ((v : Value) → IsLoneValue t v → are_deep es ≡ false → is_value_of version v ≡ true) → IfOk r (λ v. IsLoneReading t (value_view v))
      → IfOk r (λ v. IsLoneReadingIn version t (value_view v))
  read_in es (Ok v) are passed h = reading_in es (value_view v) are passed h
  read_in es (Err e) are passed h = tt

  pub refused_in : (r : Result code.Value ParseFault) → IfErr r (λ e. IfToml e (IsLoneRefusal t))
      → IfErr r (λ e. IfToml e (IsLoneRefusalIn version t))
  refused_in (Ok v) h = tt
  refused_in (Err e) h = fault_in e h

-- ---- where a part is late

module _ (t : Text) (s : Span) (told : (v : Value) (lone : IsLoneValue t v)
    → Contains (late_value v (length lone.before)) (s.start, s.end - s.start)) where
  pub not_early : (v : Value) → IsLoneValue t v → is_value_of v1_0 v ≡ false
  not_early v lone = not_value_of v (length lone.before) (s.start, s.end - s.start) (told v lone)

  pub late_refused : (es : List Event) (e : ParseFault) → AreLoneEvents t es → IsSpanOf t s
      → IfToml e (λ r. r ≡ record { message = needs_message; span = Some (s.start, s.end); input = t }) → IfToml e (IsErrorIn v1_0 t)
      → IfToml e (IsLoneRefusalIn v1_0 t)
  late_refused es (Toml r) are there is error =
      record {
        input = error.input;
        listed = error.listed;
        names =
            record {
              names = λ v lone.
                  let i = length lone.before in
                  Contains-append_left (late_value_faults v1_0 i v) (value_faults v i 0) (fault_of r)
                  (subst (λ (x : Report). Contains (late_value_faults v1_0 i v) (fault_of x)) (sym is)
                  (late_value_fault v i s.start s.end there.order (told v lone)));
              allowed = error.listed.allowed;
            };
        syntax = λ none. elim (either (are_deep es)) [
          | inl short ↦ inr (are.brackets short)
          | inr whole ↦ absurd (let found = are.has_value whole in none found.0 found.1)
        ];
        refused = λ v lone. ap (λ b. b && is_accepted_value v) (not_early v lone);
      }
  late_refused es Memory are there is error = tt
