-- The message is the output.
use Rattle.std.proofs.Common.{◌≡◌, ◌∙◌, Bool, ap, inl, string_bytes, subst}
use Rattle.std.specs.Prelude.{if◌then◌else◌}
use Rattle.toml_edit_files.proofs.outcome.told_of_refused.Goals as goal

pub returns-in-Ok : goal.returns-in-Ok
returns-in-Ok c =
    let told = c.told_of.ensures in
    inl (
      (
        subst (λ (b : Bool). c.told_of.result.status ≡ (if b then 0 else 1)) c.new.ensures.yes told.0.0,
        told.0.1 ∙ ap string_bytes c.new.ensures.output ∙ c.in-Ok.ensures.ok ∙ c.unnamed.ensures,
      ),
      told.1 ∙ c.new.ensures.notes,
    )
