use Rattle.std.proofs.Common.{◌≡◌, ◌∙◌, codes, false, nat_eq, rules, sym}
use Rattle.std.specs.List.{ends_with}
use Rattle.std.proofs.lemmas.Str.Pattern.{ends_text}
use Rattle.toml_edit_files.proofs.walk.inside.Goals as goal

pub returns-else-ends_with : goal.returns-else-ends_with
returns-else-ends_with c =
    let no : ends_with nat_eq c.args.folder.now (codes "/") ≡ false =
    sym (ends_text c.ends_with.result (codes "/") c.args.folder.now c.ends_with.ensures.cases) ∙ c.if-ends_with.false in
    rw no (search rules)
