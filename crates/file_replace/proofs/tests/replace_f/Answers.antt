use Rattle.std.proofs.Common.{Some, codes, refl}
use Rattle.file_replace.proofs.Asked.{tells}
use Rattle.file_replace.specs.Replacing.{Asked}
use Rattle.file_replace.proofs.tests.replace_f.Goals as goal

pub returns : goal.returns
returns g c =
    let a : Asked = record { name = codes "f"; before = Some c.args.before.now; text = codes "new"; force = c.args.force } in
    tells a _ _ c.replace.result _ c.replace.ensures
    (λ es asks old hs merges. c.crash_leaves_a_whole_text.ensures (λ _. a) a.name old (λ _. es) hs (λ _. refl) (λ _. asks) merges)
