-- One text more, or none after a fault.
use Rattle.std.proofs.Common.{rules, arith}
use Rattle.std.proofs.lemmas.Grind.{common_steps}
use Rattle.toml_edit_io.proofs.Puts.{put_once}
use Rattle.toml_edit_io.proofs.SinkLaws.{apart}
use Rattle.toml_edit_io.proofs.sinks.GrownSink.put.Goals as goal

pub returns-then-not-self : goal.returns-then-not-self
returns-then-not-self c = put_once _ _ _ (record { clean = λ h. search rules; grew = λ h. grind (arith, common_steps) })

pub returns-else-not-self : goal.returns-else-not-self
returns-else-not-self c = put_once _ _ _ (record { clean = λ h. search rules; grew = λ h. absurd (apart _ h c.if-not-self.false) })
