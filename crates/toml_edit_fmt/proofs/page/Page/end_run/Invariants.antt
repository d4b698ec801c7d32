-- What is written, and the parts that are to come, are all parts.
use Rattle.std.proofs.Common.{◌≡◌, ◌++◌, drop, string_bytes}
use Rattle.std.specs.Prelude.{flat_map}
use Rattle.toml_edit_fmt.specs.PageView.{padded, parts_of}
use Rattle.toml_edit_fmt.proofs.page.Page.end_run.Given as goal

abbrev pub invariant-loop-part : goal.invariant-loop-part
invariant-loop-part l =
    string_bytes l.all ++ flat_map (padded l.most l.apart) (parts_of (drop l.part-index l.part-items))
    ≡ flat_map (padded l.most l.apart) (parts_of l.fn.self.run.items)
