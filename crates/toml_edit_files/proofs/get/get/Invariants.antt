-- What is written up to here, and what is written of the paths to come, is the whole.
use Rattle.std.proofs.Common.{List, ℕ, ◌++◌, drop, string_bytes}
use Rattle.std.specs.Option.{option_copied}
use Rattle.toml_edit.specs.DocumentView.{tree_owned}
use Rattle.toml_edit_files.specs.Get.{AreGot, found_at}
use Rattle.toml_edit_files.proofs.get.get.Given as goal

abbrev pub invariant-paths : goal.invariant-paths
invariant-paths l =
    (rest : List ℕ)
    → AreGot l.command.shape (option_copied l.command.default) (found_at (tree_owned l.document) (drop l.path-index l.path-items)) rest
    → AreGot l.command.shape (option_copied l.command.default) (found_at (tree_owned l.document) l.path-items) (string_bytes l.text ++ rest)
