-- What the spans of events cut out.
use Rattle.std.proofs.Common.{◌≡◌, refl, ap, ◌∙◌, ℕ, ◌+◌, if◌then◌else◌, List, [], ◌∷◌, ◌++◌, codes, length, get_or, Result, Ok, Err, OnOk}
use Rattle.std.specs.Borrow.{Bor}
use Rattle.toml_edit_model.specs.OwnedForm.{cut_out}
use Rattle.toml_edit_model.specs.Syntax.{Frame, IsPath, Value, array, inline_table, path_text, scalar}
use Rattle.toml_edit_model.specs.Text.{Text}
use Rattle.toml_edit_laws.specs.Standing.{Stands}
use Rattle.toml_edit_laws.proofs.common.StandingLaws.{cut_out-is}
use Rattle.toml_edit_syntax.specs.declared.event.Event.{Event}
use Rattle.toml_edit_syntax.specs.declared.event.EventKind.{EventKind}
use Rattle.toml_edit_syntax.specs.declared.event.EventKind.TheVariants.{Equals}
use Rattle.toml_edit_syntax.specs.ValueEvents.{event, path_events, value_at_byte, value_events}
use Rattle.toml_edit_fmt.specs.PageView.{Gains}
use Rattle.toml_edit_fmt.specs.PathView.{IfHeadNext}
use Rattle.toml_edit_fmt.specs.declared.page.Page.{Page}
use Rattle.toml_edit_fmt.specs.declared.rules.Rules as code
use Rattle.toml_edit_fmt.proofs.PageLaws.{gains-as}

module _ (st : List Event) (i : ℕ) (d : Event) (source : Bor Text) (kind : EventKind) (n : ℕ) (t : Text) (stands : Stands source.now n t) (xs : List Event) (st_is : st ≡ xs) (at : get_or xs i d ≡ event kind n t) where
  pub cut-as : (there : Bor Text) → there ≡ source → cut_out there.now (get_or st i d).span.start (get_or st i d).span.end ≡ t
  cut-as there same =
      ap (λ (s : Bor Text). cut_out s.now (get_or st i d).span.start (get_or st i d).span.end) same
      ∙ ap (λ es. cut_out source.now (get_or es i d).span.start (get_or es i d).span.end) st_is
      ∙ ap (λ (z : Event). cut_out source.now z.span.start z.span.end) at ∙ cut_out-is source.now n t stands

  pub gains-cut : (p q : Page) → p.source ≡ source → Gains (cut_out p.source.now (get_or st i d).span.start (get_or st i d).span.end) p q → Gains t p q
  gains-cut p q same g = gains-as _ t p q (cut-as p.source same) g

  pub gains-inside : (p q : Page) (r : code.Rules) → p.source ≡ source → p.rules ≡ r
      → Gains (if p.rules.dots then [] else cut_out p.source.now (get_or st i d).span.start (get_or st i d).span.end) p q
      → Gains (if r.dots then [] else t) p q
  gains-inside p q r same rules g =
      gains-as _ (if r.dots then [] else t) p q (ap (λ (u : Text). if p.rules.dots then [] else u) (cut-as p.source same)
      ∙ ap (λ (x : code.Rules). if x.dots then [] else t) rules) g

pub on-ok : {T E : Type 0} (r : Result T E) (P Q : Type 0) → (P → Q) → OnOk r P → OnOk r Q
on-ok (Ok x) P Q f h = f h
on-ok (Err e) P Q f h = h

-- A value begins where its first event does.
pub head-next : (source : Text) (events : List Event) (f : Frame) (start : ℕ) (v : Value) (more : List Event) (P : Type 0)
    → IfHeadNext source events f (start + length f.leading) (value_events (value_at_byte start f) v ++ more) P → IsPath f.path
    → Stands source (start + length f.leading) (path_text f.path ++ (f.before_equals ++ (codes "=" ++ f.after_equals)))
    → events ≡ path_events (start + length f.leading) f.path
    ++ (event Equals (start + length f.leading + length (path_text f.path) + length f.before_equals) (codes "=")
    ∷ (value_events (value_at_byte start f) v ++ more)) → P
head-next source events f start (scalar s t) more P next is stands e = next is stands refl e
head-next source events f start (array es comma t) more P next is stands e = next is stands refl e
head-next source events f start (inline_table ps comma t) more P next is stands e = next is stands refl e
