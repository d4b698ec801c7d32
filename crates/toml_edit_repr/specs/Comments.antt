-- What a call that puts a comment into a decor leaves, and how it is refused.
use Rattle.std.specs.Prelude.{◌≡◌, Bool, true, false, codes, Option, Some, None, Result, Ok, Err}
use Rattle.std.specs.List.{list_all}
use Rattle.toml_edit_model.specs.Text.{Text as TextOf}
use Rattle.toml_edit_model.specs.Trivia.{is_visible}
use Rattle.toml_edit_model.specs.Tree.{Decor}
use Rattle.toml_edit_repr.specs.declared.comments.CommentFault.{CommentFault}
use Rattle.toml_edit_repr.specs.declared.comments.CommentFault.TheVariants.{Text, Memory}

-- what is shown of a refusal
abbrev pub fault_text : CommentFault → TextOf
fault_text Text = codes "invalid comment"
fault_text Memory = codes "out of memory"

-- the comment, if there is one, has no control character but tab
abbrev pub may_stand : Option TextOf → Bool
may_stand (Some body) = list_all is_visible body
may_stand None = true

-- A comment that may not stand is refused. All is as it was then, and after running out of memory.
abbrev pub PutsComment : Option TextOf → Decor → Decor → Decor → Result (Unit {0}) CommentFault
    → Type 0
PutsComment body meant old new (Ok u) = (may_stand body ≡ true) × (new ≡ meant)
PutsComment body meant old new (Err Text) = (may_stand body ≡ false) × (new ≡ old)
PutsComment body meant old new (Err Memory) = (may_stand body ≡ true) × (new ≡ old)
