-- The greatest of the parts that are passed, and of those that are to come, is that of all.
use Rattle.std.proofs.Common.{◌≡◌, drop, max}
use Rattle.toml_edit_fmt.specs.PageView.{most_columns, parts_of}
use Rattle.toml_edit_fmt.proofs.page.Page.most_columns.Given as goal

abbrev pub invariant-loop-part : goal.invariant-loop-part
invariant-loop-part l =
    max l.most (most_columns (parts_of (drop l.part-index l.self.run.items))) ≡ most_columns (parts_of l.self.run.items)
