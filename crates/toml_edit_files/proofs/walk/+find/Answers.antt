-- What has the name is no folder, or the files below it are found.
use Rattle.std.proofs.Common.{◌≡◌, ◌∙◌, ◌-◌, ◌<◌, ◌≤◌, ◌||◌, suc, ap, arith, length, map, string_bytes, subst, sym, take, false, List}
use Rattle.toml_edit_files.specs.Walks.{Finds, FindsEach, FindsMore}
use Rattle.toml_edit_files.proofs.FolderLaws.{looks_then}
use Rattle.toml_edit_files.proofs.WalkLaws.{all-paths, finds-deep, finds-folder, finds-other, finds-unknown, more-path}
use Rattle.toml_edit_files.proofs.walk.+find.Goals as goal

pub returns-in-Other-clause-found : goal.returns-in-Other-clause-found
returns-in-Other-clause-found g t c =
    finds-other c.args.depth c.args.named c.args.name.now c.in_ok-below.field-0 _ _ c.in_ok-below.ensures.place c.is_file.result _ _ c.in-Other.is
    c.is_file.ensures c.in_ok-add-in-Other.ensures

pub returns-in-Unknown-clause-found : goal.returns-in-Unknown-clause-found
returns-in-Unknown-clause-found g t c =
    finds-unknown c.args.depth c.args.named c.args.name.now c.in_ok-below.field-0 _ _ c.in_ok-below.ensures.place _ _ c.in-Unknown.is
    c.in_ok-add-in-Unknown.ensures

pub returns-in_err-find-clause-looks : goal.returns-in_err-find-clause-looks
returns-in_err-find-clause-looks g t c =
    looks_then _ _ _ (looks_then _ _ _ c.look.ensures.looks c.below.invariant.1) c.find.ensures.looks

pub below-preserved : goal.below-preserved
below-preserved g t c =
    let ps = c.as_slice-below.result.now in let i = c.below.path-index in let below : i < length ps = omega arith in (
      (
        c.below.invariant.0.0 || c.in_ok-find.field-0,
        more-path (Finds (c.args.depth - 1) false) ps i _ below c.as_str.result.now (c.as_str.ensures.value ∙ ap string_bytes c.path-item.is)
            c.below.invariant.0.0 c.in_ok-find.field-0 _ _ _ _ _ _ c.below.invariant.0.1 c.in_ok-find.ensures.found,
      ),
      looks_then _ _ _ c.below.invariant.1 c.find.ensures.looks,
    )

pub returns-clause-found : goal.returns-clause-found
returns-clause-found g t c =
    let ps = c.as_slice-below.result.now in let i = c.below.path-index in let past : length ps ≤ i = omega arith in
    let deep : c.args.depth ≡ suc (c.args.depth - 1) = grind (arith, c.if-depth-eq0.false) in
    finds-folder c.args.depth c.args.named c.args.name.now c.in_ok-below.field-0 _ _ c.in_ok-below.ensures.place c.in-Folder.below c.in-Folder.is
    (c.args.depth - 1) c.below.invariant.0.0 _ _ _ deep
    (all-paths (Finds (c.args.depth - 1) false) ps i past c.in-Folder.below.items c.as_slice-below.ensures.value _ _ _ _ _ c.below.invariant.0.1)

pub returns-clause-looks : goal.returns-clause-looks
returns-clause-looks g t c = looks_then _ _ _ c.look.ensures.looks c.below.invariant.1
