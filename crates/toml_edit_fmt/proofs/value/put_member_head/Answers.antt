-- A value begins where its first event does.
use Rattle.std.proofs.Common.{◌≡◌, ◌∙◌, ℕ, ◌+◌, Bool, false, List, [], ◌∷◌, ◌++◌, append_assoc, codes, length, Result, Ok, Err, IfOk}
use Rattle.std.specs.Borrow.{Bor}
use Rattle.toml_edit_model.specs.Syntax.{Frame}
use Rattle.toml_edit_model.specs.Text.{Text, one}
use Rattle.toml_edit_laws.specs.Standing.{Stands}
use Rattle.toml_edit_syntax.specs.declared.event.Event.{Event}
use Rattle.toml_edit_syntax.specs.declared.event.EventKind.TheVariants.{Equals}
use Rattle.toml_edit_syntax.specs.ValueEvents.{event, path_events, value_at_byte, value_events}
use Rattle.toml_edit_fmt.specs.PageView.{Gains, Grows, letters}
use Rattle.toml_edit_fmt.specs.PathView.{Handed, IfHeadNext}
use Rattle.toml_edit_fmt.specs.RulesView.{rules_of}
use Rattle.toml_edit_fmt.specs.ValueBits.{head_text}
use Rattle.toml_edit_fmt.specs.MemberView.{IsMember, Member, head, head_bits, head_events, of_array, of_inline, text_before, value_at, value_of}
use Rattle.toml_edit_fmt.specs.declared.page.Page.{Page}
use Rattle.toml_edit_fmt.proofs.PageLaws.{grows-by}
use Rattle.toml_edit_fmt.proofs.CutLaws.{head-next}
use Rattle.toml_edit_fmt.proofs.value.put_member_head.Goals as goal

as-bits : {E : Type 0} (result : Result (Bor (List Event)) E) (more : List Event) (t : Text) (old new : Page)
    → IfOk result (λ rest. Handed more rest.now (Gains t old new))
    → IfOk result (λ rest. Handed more rest.now (Grows (one (letters t)) old new))
as-bits (Ok rest) more t old new h = (h.0, grows-by t old new h.1)
as-bits (Err fault) more t old new h = h

by_member : {E : Type 0} (m : Member) (is_array : Bool) (events : List Event) (result : Result (Bor (List Event)) E) (old new : Page) (start : ℕ) (more : List Event)
    → is_array ≡ false
    → ((f : Frame) (at : ℕ) (more : List Event) → IfHeadNext old.source.now events f at more
    (IfOk result (λ rest. Handed more rest.now (Gains (head_text (rules_of old.rules) f) old new))))
    → IsMember is_array m → Stands old.source.now (start + length (text_before m)) (head m)
    → events ≡ head_events (start + length (text_before m)) m ++ (value_events (value_at start m) (value_of m) ++ more)
    → IfOk result (λ rest. Handed (value_events (value_at start m) (value_of m) ++ more) rest.now (Grows (head_bits (rules_of old.rules) m) old new))
by_member (of_array a v) is_array events result old new start more none next is stands e = absurd (let no : _ = is.0 in cc)
by_member (of_inline f v) is_array events result old new start more none next is stands e =
    as-bits result (value_events (value_at_byte start f) v ++ more) (head_text (rules_of old.rules) f) old new
    (head-next old.source.now events f start v more _ (next f (start + length f.leading) (value_events (value_at_byte start f) v ++ more)) is.1 stands
    (e ∙ append_assoc (path_events (start + length f.leading) f.path) (event Equals _ (codes "=") ∷ []) (value_events (value_at_byte start f) v ++ more)))

pub returns-clause-head : goal.returns-clause-head
returns-clause-head c = λ m start more is stands e.
    by_member m _ c.args.events.now c.put_pair_head.result c.args.page.now c.put_pair_head.new.page start more c.if-list.false c.put_pair_head.ensures.head is stands e
