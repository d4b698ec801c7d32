-- A turn over the members adds the first of those that are left.
use Rattle.std.proofs.Common.{◌≡◌, refl, sym, ap, subst, ◌∙◌, ℕ, ◌+◌, if◌then◌else◌, List, ◌∷◌, ◌++◌, append_assoc, length, get_or, drop, Option, Some, None, is_none}
use Rattle.std.proofs.lemmas.List.{take_rest}
use Rattle.std.specs.Borrow.{Bor}
use Rattle.toml_edit_model.specs.OwnedForm.{cut_out}
use Rattle.toml_edit_model.specs.Syntax.{Value, value_text}
use Rattle.toml_edit_model.specs.Text.{Text}
use Rattle.toml_edit_laws.specs.Standing.{Stands}
use Rattle.toml_edit_syntax.specs.declared.event.Event.{Event}
use Rattle.toml_edit_syntax.specs.declared.event.EventKind.TheVariants.{After}
use Rattle.toml_edit_syntax.specs.declared.event.Span.{Span}
use Rattle.toml_edit_syntax.specs.ValueEvents.{event, value_events}
use Rattle.toml_edit_fmt_laws.specs.Rules.{Rules}
use Rattle.toml_edit_fmt_laws.specs.Formatted.{inner_depth, inner_room}
use Rattle.toml_edit_fmt.specs.PageView.{Bit, Grows}
use Rattle.toml_edit_fmt.specs.PathView.{Handed}
use Rattle.toml_edit_fmt.specs.RulesView.{rules_of}
use Rattle.toml_edit_fmt.specs.ValueBits.{Listed, after_bits, before_bits, value_bits}
use Rattle.toml_edit_fmt.specs.MemberView.{AreNext, End, IsMember, Member, begins, head, head_bits, head_events, members_bits, of_array, of_inline, room_inside, text_after, text_before, text_of, value_at, value_of}
use Rattle.toml_edit_fmt.specs.ValueView.{IfValueNext, StandsAt, layout_of, listed, split_member}
use Rattle.toml_edit_fmt.specs.declared.page.Page.{Page}
use Rattle.toml_edit_fmt.specs.declared.rules.Rules as code
use Rattle.toml_edit_fmt.specs.declared.value.Brackets.{Brackets}
use Rattle.toml_edit_fmt.specs.declared.value.Place.{Place}
use Rattle.toml_edit_fmt.proofs.ListLaws.{left_of, some-parts}
use Rattle.toml_edit_fmt.proofs.OwedLaws.{Owes, owes-less}
use Rattle.toml_edit_fmt.proofs.MemberLaws as law

-- Of these members some are left, after this text of the one before.
pub record MembersLeft (x : Brackets) (e : End) (last : Option Text) (all : List Member) (more rest : List Event) (old now : Page) : Type 0 where
  pub members : List Member
  pub at : ℕ
  pub next : AreNext old.source.now x.is_array rest e last members at more
  pub owes : Owes (members_bits (rules_of old.rules) (listed (rules_of old.rules) x) e None all)
      (members_bits (rules_of old.rules) (listed (rules_of old.rules) x) e last members) old now

-- A member has been added, and these events are behind its value.
pub record Turned (x : Brackets) (e : End) (all : List Member) (more behind : List Event) (old now : Page) : Type 0 where
  pub after : Text
  pub at : ℕ
  pub rest : List Event
  pub behind_is : behind ≡ event After at after ∷ rest
  pub text : cut_out old.source.now at (at + length after) ≡ after
  pub left : MembersLeft x e (Some after) all more rest old now

none-is : (after : Option (Bor Text)) → is_none after ≡ is_none (text_of after)
none-is None = refl
none-is (Some t) = refl

abbrev between : Rules → Listed → Option Text → Text → List Bit
between r x last t = after_bits r x last ++ before_bits r x (is_none last) t

room : (r : Rules) (x : Brackets) (m : Member) → IsMember x.is_array m
    → (if x.is_array then inner_room r (layout_of x.layout) x.depth else None) ≡ room_inside r (listed r x) m
room r x (of_array a v) is = ap (λ b. if b then inner_room r (layout_of x.layout) x.depth else None) is.0
room r x (of_inline f v) is = ap (λ b. if b then inner_room r (layout_of x.layout) x.depth else None) is.0

module _ (x : Brackets) (e : End) (after : Option (Bor Text)) (all : List Member) (more rest member value behind : List Event) (before : Span) (text : Text) (old p1 p2 p3 p4 : Page) (place : Place)
    (left : MembersLeft x e (text_of after) all more rest old p1)
    (split : split_member rest ≡ Some (before, member))
    (text_is : text ≡ cut_out old.source.now before.start before.end)
    (adds : Grows (after_bits (rules_of p1.rules) (listed (rules_of p1.rules) x) (text_of after)
    ++ before_bits (rules_of p1.rules) (listed (rules_of p1.rules) x) (is_none after) text) p1 p2)
    (adds_head : (m : Member) (start : ℕ) (more : List Event) → IsMember x.is_array m
    → Stands p2.source.now (start + length (text_before m)) (head m)
    → member ≡ head_events (start + length (text_before m)) m ++ (value_events (value_at start m) (value_of m) ++ more)
    → Handed (value_events (value_at start m) (value_of m) ++ more) value (Grows (head_bits (rules_of p2.rules) m) p2 p3))
    (stands : StandsAt (inner_depth (layout_of x.layout) x.depth) (if x.is_array then inner_room (rules_of p3.rules) (layout_of x.layout) x.depth else None) place)
    (adds_value : (v : Value) (start : ℕ) (room : Option ℕ) (more : List Event) → IfValueNext p3.source.now value v start more
    (StandsAt place.depth room place → Handed more behind (Grows (value_bits (rules_of p3.rules) place.depth room v) p3 p4))) where
  abbrev last : Option Text
  last = text_of after

  by_first : (m : Member) (others : List Member) → AreNext old.source.now x.is_array rest e last (m ∷ others) left.at more
      → Owes (members_bits (rules_of old.rules) (listed (rules_of old.rules) x) e None all)
      (members_bits (rules_of old.rules) (listed (rules_of old.rules) x) e last (m ∷ others)) old p1
      → Turned x e all more behind old p4
  by_first m others next owes =
      let source = old.source.now in
      let r = rules_of old.rules in
      let l = listed r x in
      let at = begins last left.at in
      let behind_value = law.after_value source x.is_array rest e last m others left.at more next in
      let whole = members_bits r l e None all in
      let others_bits = members_bits r l e (Some (text_after m)) others in
      let depth = inner_depth l.layout l.depth in
      let value_part = value_bits r depth (room_inside r l m) (value_of m) in
      let parts = some-parts before _ member _ (sym split ∙ law.first-splits source x.is_array rest e last m others left.at more next) in
      let before_is : text ≡ text_before m =
      text_is ∙ ap (λ s. cut_out source s.start s.end) parts.0
      ∙ law.before-cut source x.is_array rest e last m others left.at more next in
      let member_is : member ≡ head_events (at + length (text_before m)) m ++ (value_events (value_at at m) (value_of m) ++ behind_value) = parts.1 in
      let rules2 = adds.rules ∙ owes.rules in
      let source2 = adds.source ∙ owes.source in
      let is = next.members.0 in
      let one = owes-less whole (between r l last (text_before m)) (head_bits r m ++ (value_part ++ others_bits)) old p1 p2
      (subst (λ bs. Owes whole bs old p1) (sym (append_assoc (after_bits r l last) (before_bits r l (is_none last) (text_before m)) (head_bits r m ++ (value_part ++ others_bits)))) owes)
      (subst (λ t. Grows (between r l last t) p1 p2) before_is
      (subst (λ b. Grows (after_bits r l last ++ before_bits r l b text) p1 p2) (none-is after)
      (subst (λ (q : code.Rules). Grows (after_bits (rules_of q) (listed (rules_of q) x) last
      ++ before_bits (rules_of q) (listed (rules_of q) x) (is_none after) text) p1 p2) owes.rules adds))) in
      let put_head = adds_head m at behind_value is
      (subst (λ s. Stands s.now (at + length (text_before m)) (head m)) (sym source2) (law.head-stands source x.is_array rest e last m others left.at more next)) member_is in
      let two = owes-less whole (head_bits r m) (value_part ++ others_bits) old p2 p3 one
      (subst (λ (q : code.Rules). Grows (head_bits (rules_of q) m) p2 p3) rules2 put_head.1) in
      let room_there = if x.is_array then inner_room (rules_of p3.rules) (layout_of x.layout) x.depth else None in
      let put_value = adds_value (value_of m) (value_at at m) room_there behind_value
      (law.value-spelled source x.is_array rest e last m others left.at more next m is)
      (subst (λ s. Stands s.now (value_at at m) (value_text (value_of m))) (sym two.source) (law.value-stands source x.is_array rest e last m others left.at more next)) put_head.0
      (record { depth_is = refl; room_is = stands.room_is }) in
      record {
        after = text_after m;
        at = law.ends at m;
        rest = law.behind source x.is_array rest e last m others left.at more next;
        behind_is = put_value.0;
        text = law.after-cut source x.is_array rest e last m others left.at more next;
        left = record {
          members = others;
          at = law.ends at m;
          next = law.others-next source x.is_array rest e last m others left.at more next;
          owes = owes-less whole value_part others_bits old p3 p4 two
              (subst (λ o. Grows (value_bits r depth o (value_of m)) p3 p4) (room r x m is)
              (subst (λ (q : code.Rules). Grows (value_bits (rules_of q) depth (if x.is_array then inner_room (rules_of q) (layout_of x.layout) x.depth else None) (value_of m)) p3 p4) two.rules
              (subst (λ d. Grows (value_bits (rules_of p3.rules) d room_there (value_of m)) p3 p4) stands.depth_is put_value.1)));
        };
      }

  pub turned : Turned x e all more behind old p4
  turned =
      let (m, others, are) = law.one-left old.source.now x.is_array rest e last left.members left.at more (before, member) left.next split in
      by_first m others (subst (λ ms. AreNext old.source.now x.is_array rest e last ms left.at more) are left.next)
      (subst (λ ms. Owes (members_bits (rules_of old.rules) (listed (rules_of old.rules) x) e None all) (members_bits (rules_of old.rules) (listed (rules_of old.rules) x) e last ms) old p1) are left.owes)

-- what is left, and the text before it, as the code finds them behind a value
pub left-behind : (x : Brackets) (e : End) (all : List Member) (more behind : List Event) (old now : Page) (d : Event) (text : Text)
    → Turned x e all more behind old now
    → text ≡ cut_out old.source.now (get_or behind 0 d).span.start (get_or behind 0 d).span.end
    → MembersLeft x e (Some text) all more (left_of 1 behind) old now
left-behind x e all more behind old now d text h is =
    let cut = is ∙ ap (λ es. cut_out old.source.now (get_or es 0 d).span.start (get_or es 0 d).span.end) h.behind_is ∙ h.text in
    subst (λ t. MembersLeft x e (Some t) all more (left_of 1 behind) old now) (sym cut)
    (subst (λ es. MembersLeft x e (Some h.after) all more es old now) (sym (take_rest behind 1 ∙ ap (drop 1) h.behind_is)) h.left)
