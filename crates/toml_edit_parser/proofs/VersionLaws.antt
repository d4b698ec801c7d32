-- Whether the statement that comes first is one of the version.
use Rattle.std.proofs.Common.{◌≡◌, ℕ, ◌+◌, ◌-◌, Option, None, Some, Result, Ok, Err, ap, sym, subst, ◌∙◌, true, false, List, [], ◌++◌}
use Rattle.std.proofs.Common.{inr, refl, lit<, arith}
use Rattle.std.specs.Prelude.{Contains, IfSome}
use Rattle.std.specs.Borrow.{Bor}
use Rattle.std.proofs.lemmas.List.Elements.{Contains-append_left, Contains-append_right}
use Rattle.toml_edit_model.specs.Mode.{Mode}
use Rattle.toml_edit_model.specs.Text.{Text}
use Rattle.toml_edit_model.specs.Syntax.{Statement}
use Rattle.toml_edit_model.specs.Version.{Version, v1_0, is_of_version, late_places}
use Rattle.toml_edit_model.specs.Faults.{Fault, fault, needs_message, late_faults}
use Rattle.toml_edit_laws.specs.Building.{Builder, faults_at}
use Rattle.toml_edit_laws.proofs.versions.VersionFaults.{late-named, early-of-none}
use Rattle.toml_edit_error.specs.Fault.{IfToml}
use Rattle.toml_edit_error.specs.Report.{fault_of}
use Rattle.toml_edit_error.specs.declared.toml_error.ParseFault.{ParseFault}
use Rattle.toml_edit_syntax.specs.declared.event.Event.{Event}
use Rattle.toml_edit_syntax.specs.declared.event.Span.{Span}
use Rattle.toml_edit_syntax.specs.Events.{IsSpanOf, has_deep_value}
use Rattle.toml_edit_syntax.specs.LateEvents.{NamesLate}
use Rattle.toml_edit_parser.specs.Listed.{IsMessageIn, Refuses, RefusesIn}
use Rattle.toml_edit_parser.specs.ValueRead.{NamesOne}
use Rattle.toml_edit_parser.specs.declared.document.building.Building.{Building}
use Rattle.toml_edit_parser.specs.StatementRead.{ReadsStatement, ReadsInVersion}
use Rattle.toml_edit_parser.proofs.ShallowLaws.{added-shallow}
use Rattle.toml_edit_parser.proofs.ReadLaws.{mapped}
use Rattle.toml_edit_parser.proofs.ListedLaws.{error_in}

-- ---- in TOML 1.0

-- a part of it that is not there is a fault
pub late_named : (version : Version) (start : ℕ) (s : Statement) (o : Option Span) → version ≡ v1_0
    → IfSome o (NamesLate (late_places start s))
    → IfSome o (λ span. Contains (late_faults version start s) (fault needs_message span.start (span.end - span.start)))
late_named version start s None is h = h
late_named version start s (Some span) is h =
    subst (λ v. Contains (late_faults v start s) (fault needs_message span.start (span.end - span.start))) (sym is)
    (late-named start s (span.start, span.end - span.start) h)

-- without one it is of the version
pub early_statement : (version : Version) (start : ℕ) (s : Statement) → version ≡ v1_0 → late_places start s ≡ [] → is_of_version version s
    ≡ true
early_statement version start s is h = ap (λ v. is_of_version v s) is ∙ early-of-none start s h

-- ---- in each version

-- the error that names it
pub names_late : (version : Version) (t : Text) (b : Builder) (s : Statement) (span : Span) (e : ParseFault)
    → Contains (late_faults version b.start s) (fault needs_message span.start (span.end - span.start)) → IsSpanOf t span
    → IfToml e (λ r. r ≡ record { message = needs_message; span = Some (span.start, span.end); input = t })
    → IfToml e (NamesOne t (late_faults version b.start s ++ faults_at b s))
names_late version t b s span e has within told =
    mapped e _ _
    (λ r same. let there : span.start + (span.end - span.start) ≡ span.end = (let order = within.order in omega (arith, order)) in
    let f : Fault = record { message = needs_message; span = Some (span.start, span.end) } in
    let named : Contains (late_faults version b.start s) f =
    subst (λ n. Contains (late_faults version b.start s) (record { message = needs_message; span = Some (span.start, n) })) there has in (
      ap (λ x. x.input) same,
      Contains-append_left (late_faults version b.start s) (faults_at b s) (fault_of r)
          (subst (Contains (late_faults version b.start s)) (sym (ap fault_of same)) named),
    ))
    told

-- where it is one of the version once it is known to be right, what reading it answers
pub reads_in_version : (mode : Mode) (version : Version) (t : Text) (b : Builder) (s : Statement) (more : List Event) (new : Building)
    (r : Result (Bor (List Event)) ParseFault)
    → (has_deep_value s ≡ false → is_of_version version s ≡ true) → ReadsStatement mode t b s more new r
    → ReadsInVersion mode version t b s more new r
reads_in_version mode version t b s more new (Ok rest) early h = (early (added-shallow b.start s h.faultless), h)
reads_in_version mode version t b s more new (Err e) early h =
    mapped e _ _ (λ r is. (is.0, Contains-append_right (late_faults version b.start s) (faults_at b s) (fault_of r) is.1)) h

-- ---- the messages

-- TOML 1.0 has a message for what it lacks
pub late-message : (version : Version) → version ≡ v1_0 → IsMessageIn version needs_message
late-message version is = subst (λ v. IsMessageIn v needs_message) (sym is) (inr (0, lit< tt, refl))

-- an error in TOML 1.1 is one in each version
pub refuses-in : {A : Type 0} (version : Version) (t : Text) (r : Result A ParseFault) → Refuses t r → RefusesIn version t r
refuses-in version t (Ok x) h = tt
refuses-in version t (Err e) h = mapped e _ _ (error_in version t) h
