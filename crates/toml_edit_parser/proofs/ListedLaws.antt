-- Errors with a message of those that there are.
use Rattle.std.proofs.Common.{ℕ, ◌≡◌, ◌⊎◌, inl, inr, refl, sym, ap, subst, Some, None, ◌∷◌, [], lit<, rules}
use Rattle.std.specs.Prelude.{Contains}
use Rattle.std.proofs.lemmas.List.Elements.{Contains-append_right}
use Rattle.toml_edit_model.specs.Text.{Text}
use Rattle.toml_edit_model.specs.Faults.{needs_message, recursion_limit}
use Rattle.toml_edit_model.specs.Messages.{IsSyntaxFault, fault_messages, fault_messages_in}
use Rattle.toml_edit_model.specs.Version.{Version, v1_0, v1_1}
use Rattle.toml_edit_error.specs.Report.{Report, SpanIsIn}
use Rattle.toml_edit_error.specs.Fault.{IfToml}
use Rattle.toml_edit_error.specs.declared.toml_error.ParseFault.{ParseFault}
use Rattle.toml_edit_error.specs.declared.toml_error.ParseFault.TheVariants.{Toml, Memory}
use Rattle.toml_edit_parser.specs.Listed.{IsErrorIn, IsErrorOf, IsListed, IsListedIn, IsMessageIn}

-- one that is about a place of its text
pub refused_place : (version : Version) (t m : Text) (s : ℕ × ℕ) (e : ParseFault) → IsMessageIn version m → SpanIsIn t (Some s)
    → IfToml e (λ r. r ≡ record { message = m; span = Some s; input = t }) → IfToml e (IsErrorIn version t)
refused_place version t m s (Toml r) is within h =
    let named : IsSyntaxFault (record { message = m; span = Some s }) ⊎ Contains (fault_messages_in version) m =
    elim is [ inl syntax ↦ inl (record { message = syntax; span = search rules }) | inr fault ↦ inr fault ] in
    let listed : IsListedIn version r =
    subst (IsListedIn version) (sym h) (record { allowed = named; marks = inl (search rules); within = within }) in
    record { input = ap (λ (x : Report). x.input) h; listed = listed }
refused_place version t m s Memory is within h = tt

-- a message of a fault is one in each version
pub listed_in : (version : Version) (m : Text) → Contains fault_messages m → Contains (fault_messages_in version) m
listed_in v1_0 m h = Contains-append_right (needs_message ∷ []) fault_messages m h
listed_in v1_1 m h = h

-- that of a limit, which is about no place
pub refused_limit : (version : Version) (t m : Text) (e : ParseFault) → m ≡ recursion_limit
    → IfToml e (λ r. r ≡ record { message = m; span = None; input = t }) → IfToml e (IsErrorIn version t)
refused_limit version t m (Toml r) is h =
    let named = listed_in version m (subst (Contains fault_messages) (sym is) (3, lit< tt, refl)) in
    let listed : IsListedIn version r =
    subst (IsListedIn version) (sym h) (record { allowed = inr named; marks = inr is; within = tt }) in
    record { input = ap (λ (x : Report). x.input) h; listed = listed }
refused_limit version t m Memory is h = tt

-- what is said in TOML 1.1 may be said in each version
pub report_in : (version : Version) (r : Report) → IsListed r → IsListedIn version r
report_in version r h =
    record {
      allowed = elim h.allowed [ inl syntax ↦ inl syntax | inr m ↦ inr (listed_in version r.message m) ];
      marks = h.marks;
      within = h.within;
    }

-- an error in TOML 1.1 is one in each version
pub error_in : (version : Version) (t : Text) (r : Report) → IsErrorOf t r → IsErrorIn version t r
error_in version t r h = record { input = h.input; listed = report_in version r h.listed }
