-- Worked marks: the mark stays, but not in the normal form.
use Rattle.std.specs.Prelude.{◌≡◌, refl, true, false, [], ◌++◌, codes}
use Rattle.toml_edit_model.specs.Text.{byte_order_mark}
use Rattle.toml_edit_files.specs.Edited.{mark_of, unmarked}

kept-mark : mark_of false (byte_order_mark ++ codes "a=1") ≡ byte_order_mark
kept-mark = refl

no-mark : mark_of true (byte_order_mark ++ codes "a=1") ≡ []
no-mark = refl

without-mark : unmarked (byte_order_mark ++ codes "a=1") ≡ codes "a=1"
without-mark = refl
