-- The rest of the options changes the shape that those before it give.
use Rattle.std.proofs.Common.{◌≡◌, drop, map}
use Rattle.toml_edit_files.specs.Requests.{shape_in}
use Rattle.toml_edit_files.specs.Split.{split_of}
use Rattle.toml_edit_items.specs.declared.shape.Shape.TheVariants.{Spelled}
use Rattle.toml_edit_files.proofs.SplitLaws.{option_of}
use Rattle.toml_edit_files.proofs.request.shape_of.Given as goal

abbrev pub invariant-options : goal.invariant-options
invariant-options l =
    shape_in Spelled (split_of l.words).options ≡ shape_in l.shape (map option_of (drop l.option-index l.option-items))
