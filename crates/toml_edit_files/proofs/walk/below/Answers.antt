-- The next name begins with a dot, or its path is added.
use Rattle.std.proofs.Common.{◌≡◌, ◌<◌, ◌∙◌, ap, arith, codes, false, length, map, nat_eq, string_bytes, true}
use Rattle.std.specs.List.{starts_with}
use Rattle.std.proofs.lemmas.Str.Pattern.{starts_text}
use Rattle.toml_edit_files.specs.Walks.{below}
use Rattle.toml_edit_files.proofs.WalkLaws.{path-hidden, path-shown}
use Rattle.toml_edit_files.proofs.walk.below.Goals as goal
use Rattle.toml_edit_files.proofs.walk.below.Goals.{then-not-starts_with+in_ok-inside+in_ok-push, else-not-starts_with}

pub names-preserved : goal.names-preserved
names-preserved c =
    let ns = c.args.names.now in let i = c.names.name-index in let is : i < length ns = omega arith in
    let n = c.as_str-name.result.now in
    let tells : c.starts_with.result ≡ starts_with nat_eq n (codes ".") = starts_text c.starts_with.result (codes ".") n c.starts_with.ensures.cases in
    elim c.if-not-starts_with.branch [
      | then-not-starts_with+in_ok-inside+in_ok-push w ↦
          let not-so : c.starts_with.result ≡ false = grind (arith, w.if-not-starts_with) in
          rw w.paths-is
          (path-shown c.args.folder.now ns c.names.paths.items i _ is n (c.as_str-name.ensures.value ∙ ap string_bytes c.name-item.is) c.names.invariant
          c.starts_with.result tells not-so w.in_ok-inside.field-0 w.push.new.self.items w.in_ok-inside.ensures w.in_ok-push.ensures.items)
      | else-not-starts_with w ↦
          let is-so : c.starts_with.result ≡ true = grind (arith, w.if-not-starts_with) in
          rw w.paths-is
          (path-hidden c.args.folder.now ns c.names.paths.items i _ is n (c.as_str-name.ensures.value ∙ ap string_bytes c.name-item.is) c.names.invariant
          c.starts_with.result tells is-so)
    ]
