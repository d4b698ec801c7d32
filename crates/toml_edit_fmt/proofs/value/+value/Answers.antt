-- Each turn of the loop adds a member, and a list is written after its bracket.
use Rattle.std.proofs.Common.{sym, ap, subst, ◌∙◌, arith, length}
use Rattle.std.specs.Borrow.{Bor}
use Rattle.toml_edit_model.specs.Text.{Text}
use Rattle.toml_edit_syntax.specs.LateEvents.{AreIn}
use Rattle.toml_edit_fmt.proofs.ListLaws.{are-left, left-shorter, member-shorter}
use Rattle.toml_edit_fmt.proofs.MemberTurns.{left-behind, turned}
use Rattle.toml_edit_fmt.proofs.ValueTurns.{array-put, inline-put, scalar-put, some-first}
use Rattle.toml_edit_fmt.proofs.value.+value.Goals as goal

pub put_members-members-preserved : goal.put_members-members-preserved
put_members-members-preserved t c =
    let behind = c.in_ok-behind.behind.now in
    let all = c.in_ok-behind.ensures.rest in
    let head = c.in_ok-value.ensures.rest in
    let between = c.in_ok-put_between.ensures in
    let before = c.members.invariant in
    let split = sym c.in-Some.ensures in
    let source = head.source ∙ between.source ∙ before.source in
    record {
      spans = are-left c.args.page.now.source.now 1 behind (subst (λ (s : Bor Text). AreIn s.now behind) source all.spans);
      shorter = omega (arith, left-shorter 1 behind, all.shorter, head.shorter, member-shorter c.members.rest.now _ _ split, before.shorter);
      source = all.source ∙ source;
      rules = all.rules ∙ head.rules ∙ between.rules ∙ before.rules;
      left = λ e ms at more next.
          left-behind c.args.list.now e ms more behind c.args.page.now c.put_value.new.page _ _
          (turned c.args.list.now e c.members.after ms more c.members.rest.now c.in-Some.member.now c.in_ok-value.value.now behind c.in-Some.before _ c.args.page.now
          c.members.page c.put_between.new.page c.put_member_head.new.page c.put_value.new.page c.place-place.result
          (before.left e ms at more next) split c.text_at.ensures between c.in_ok-value.ensures.head c.place-place.ensures c.in_ok-behind.ensures.value)
          c.text_at-in-Some.ensures;
    }

pub put_members-returns-in_default-behind-clause-members :
    goal.put_members-returns-in_default-behind-clause-members
put_members-returns-in_default-behind-clause-members t c = λ e ms at more next.
    let turn = turned c.args.list.now e c.members.after ms more c.members.rest.now c.in-Some.member.now c.in_ok-value.value.now c.in_ok-behind.behind.now c.in-Some.before _ c.args.page.now
    c.members.page c.put_between.new.page c.put_member_head.new.page c.put_value.new.page c.place-place.result
    (c.members.invariant.left e ms at more next) (sym c.in-Some.ensures) c.text_at.ensures c.in_ok-put_between.ensures c.in_ok-value.ensures.head c.place-place.ensures c.in_ok-behind.ensures.value in
    absurd (omega (arith, ap length turn.behind_is, c.in_default-behind.len_below))

pub put_value-returns-in_default-clause-value : goal.put_value-returns-in_default-clause-value
put_value-returns-in_default-clause-value t c = λ v start room more is stands e there.
    absurd (omega (arith, ap length e, some-first start v more, c.in_default.len_below))

pub put_value-returns-in_ok-list-in-ArrayOpen-clause-value :
    goal.put_value-returns-in_ok-list-in-ArrayOpen-clause-value
put_value-returns-in_ok-list-in-ArrayOpen-clause-value t c =
    array-put _ c.args.place c.in_ok-list-in-ArrayOpen.list c.args.events.now c.put_members.result c.args.page.now c.put_event.new.self c.put_members.new.page
    c.in_ok-put_event.ensures c.put_members.ensures.members c.in_ok-list-in-ArrayOpen.ensures.kind.1 c.in_ok-list-in-ArrayOpen.ensures.kind.0
    c.in_ok-list-in-ArrayOpen.ensures.array c.in-ArrayOpen.is

pub put_value-returns-in_ok-list-in-InlineTableOpen-clause-value :
    goal.put_value-returns-in_ok-list-in-InlineTableOpen-clause-value
put_value-returns-in_ok-list-in-InlineTableOpen-clause-value t c =
    inline-put _ c.args.place c.in_ok-list-in-InlineTableOpen.list c.args.events.now c.put_members-in-InlineTableOpen.result c.args.page.now c.put_event.new.self
    c.put_members-in-InlineTableOpen.new.page
    c.in_ok-put_event.ensures c.put_members-in-InlineTableOpen.ensures.members c.in_ok-list-in-InlineTableOpen.ensures.kind.1 c.in_ok-list-in-InlineTableOpen.ensures.kind.0
    c.in_ok-list-in-InlineTableOpen.ensures.inline c.in-InlineTableOpen.is

pub put_value-returns-in_default-kind : goal.put_value-returns-in_default-kind
put_value-returns-in_default-kind t c =
    record {
      value = λ v start room more is stands e there.
          scalar-put _ start c.args.place.depth room v more c.args.events.now c.args.page.now c.put_event.new.self
          c.in_default-kind.not-ArrayOpen c.in_default-kind.not-InlineTableOpen stands e c.in_ok-put_event.ensures;
      rest = record {
        spans = are-left c.args.page.now.source.now 1 c.args.events.now c.requires.spans;
        shorter = left-shorter 1 c.args.events.now;
        source = c.in_ok-put_event.ensures.source;
        rules = c.in_ok-put_event.ensures.rules;
      };
    }
