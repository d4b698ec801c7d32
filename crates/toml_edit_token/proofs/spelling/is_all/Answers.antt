-- All bytes pass where nothing follows the run at the front.
use Rattle.std.proofs.Common.{◌≡◌, length, ◌==◌, ap, ◌∙◌}
use Rattle.toml_edit_token.specs.Classes.{class_test}
use Rattle.toml_edit_token.proofs.Escaping.{all_from_run}
use Rattle.toml_edit_token.proofs.spelling.is_all.Goals as goal

pub returns : goal.returns
returns c =
    let known : c.is_empty.result ≡ (length c.split_run.result.1.now == 0) = c.is_empty.ensures in
    known ∙ rw (ap (λ p. p.1) c.split_run.ensures.parts) (all_from_run (class_test c.args.class) c.args.s.now)
