-- One text more, or none after a fault.
use Rattle.std.proofs.Common.{refl, rules, arith}
use Rattle.std.proofs.lemmas.Grind.{common_steps}
use Rattle.toml_edit_io.proofs.Puts.{put_once}
use Rattle.toml_edit_io.proofs.SinkLaws.{apart}
use Rattle.toml_edit_io.proofs.sinks.ShownSink.put.Goals as goal

pub returns-then-not-self : goal.returns-then-not-self
returns-then-not-self g c =
    put_once _ _ _ (record {
      same_reference = refl;
      clean = λ h. search rules;
      wrote =
          λ h plain. c.write_str.ensures.writes plain (grind (arith, common_steps));
    })

pub returns-else-not-self : goal.returns-else-not-self
returns-else-not-self g c =
    put_once _ _ _ (record { same_reference = refl; clean = λ h. h; wrote = λ h plain. absurd (apart _ h c.if-not-self.false) })
