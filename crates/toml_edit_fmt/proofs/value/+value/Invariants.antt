-- What is written, and what is left of the members, is what all members are laid out as.
use Rattle.std.proofs.Common.{◌≡◌, ◌≤◌, ℕ, List, None, length}
use Rattle.toml_edit_syntax.specs.declared.event.Event.{Event}
use Rattle.toml_edit_syntax.specs.LateEvents.{AreIn}
use Rattle.toml_edit_fmt.specs.MemberView.{AreNext, End, Member, text_of}
use Rattle.toml_edit_fmt.proofs.MemberTurns.{MembersLeft}
use Rattle.toml_edit_fmt.proofs.value.+value.Given as goal

abbrev pub decreases-put_members : goal.decreases-put_members
decreases-put_members l = length l.events.now

abbrev pub decreases-put_value : goal.decreases-put_value
decreases-put_value l = length l.events.now

abbrev pub invariant-put_members-members : goal.invariant-put_members-members
invariant-put_members-members l = record {
  spans : AreIn l.fn.page.source.now l.rest;
  shorter : length l.rest ≤ length l.fn.events;
  source : l.page.source ≡ l.fn.page.source;
  rules : l.page.rules ≡ l.fn.page.rules;
  left : (e : End) (ms : List Member) (at : ℕ) (more : List Event)
      → AreNext l.fn.page.source.now l.list.is_array l.fn.events e None ms at more
      → MembersLeft l.list e (text_of l.after) ms more l.rest l.fn.page l.page;
}

abbrev pub decreases-put_members-members : goal.decreases-put_members-members
decreases-put_members-members l = length l.rest
