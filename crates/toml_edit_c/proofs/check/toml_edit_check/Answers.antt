-- The answer has the message of the error.
use Rattle.std.proofs.Common.{◌≡◌, ◌∙◌, subst, rules}
use Rattle.toml_edit_command.specs.Run.{IsRefused}
use Rattle.toml_edit_parser.specs.Options.{mode_of, version_of}
use Rattle.toml_edit_c.specs.Answers.{Holds}
use Rattle.toml_edit_c.proofs.Outcomes.{held-or-long}
use Rattle.toml_edit_c.proofs.check.toml_edit_check.Goals as goal

pub returns-in-Err-Toml-clause-refused : goal.returns-in-Err-Toml-clause-refused
returns-in-Err-Toml-clause-refused c =
    let e = c.in-Err-Toml.error in let put = c.put-needed in let options = c.in-Ok.options in let room = c.args.room.now in
    let refused : IsRefused (version_of options) c.args.text.now = search rules in
    let same : c.as_bytes.result.now ≡ e.message = c.as_bytes.ensures.value ∙ c.message.ensures in
    let holds = subst (λ x. Holds x put.result room put.new.room) same put.ensures in
    λ status. (
      (mode_of options, version_of options),
      c.in-Ok.ensures.valid,
      record {
        report = e;
        refused = refused;
        reason = search rules;
        at = c.place_in.ensures;
        needed = holds.0;
        message = held-or-long e.message put.result room put.new.room holds;
      },
    )
