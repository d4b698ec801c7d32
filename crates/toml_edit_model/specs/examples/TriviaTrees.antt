-- Worked texts with trivia and spellings of all kinds, with their trees by hand.
use Rattle.std.specs.Prelude.{refl, pos, true, false, ◌++◌, codes, Some}
use Rattle.toml_edit_model.specs.Text.{byte_order_mark}
use Rattle.toml_edit_model.specs.Scalars.{string}
use Rattle.toml_edit_model.specs.Tree.{span, leaf, table}
use Rattle.toml_edit_model.specs.Tree.{no_slots, slot, Tree}
use Rattle.toml_edit_model.specs.TreeOf.{spanned_form, owned_form, IsTreeOf}
use Rattle.toml_edit_model.specs.examples.Cuts.{commented, spaced_dot}
use Rattle.toml_edit_model.specs.examples.Texts.{readme, marked_returns}
use Rattle.toml_edit_model.specs.OwnedForm.{owned_tree}
use Rattle.toml_edit_model.specs.examples.TreesOfTexts.{none, decor, last, inner, number, by_path, by_header, spanned_tree}

-- ---- trivia and spellings

-- a line feed, `"hello" = 'toml!' # comment`, `['a'.b]`, and white space
abbrev pub readme_spans : Tree
readme_spans =
    spanned_tree (slot (last (codes "hello") (span 1 8) (span 0 1) (span 8 9))
    (leaf (string (codes "toml!")) (Some (span 11 18)) (decor (span 10 11) (span 18 28)))
    (slot (inner (codes "a") (span 30 33)) (table (by_path false (Some (30, 33)))
    (slot (last (codes "b") (span 34 35) none none)
    (table (by_header 1 (Some (29, 36))) no_slots) no_slots)) no_slots)) (span 37 41)

pub spanned_readme : IsTreeOf spanned_form readme readme_spans
spanned_readme =
    record {
      root = refl;
      slots =
          (refl, (refl, (refl, refl, refl)), (refl, (tt, refl, (refl, (tt, refl, tt), tt)), tt));
      trailing = refl;
    }

pub owned_readme : IsTreeOf owned_form readme
    (owned_tree (codes "\n\"hello\" = 'toml!' # comment\n['a'.b]\n    ") readme_spans)
owned_readme =
    record {
      root = refl;
      slots =
          (refl, (refl, (refl, refl, refl)), (refl, (tt, refl, (refl, (tt, refl, tt), tt)), tt));
      trailing = refl;
    }

-- U+FEFF, `a = 1`, and a string of several lines `y`: spans count from before U+FEFF
abbrev pub marked_returns_spans : Tree
marked_returns_spans =
    spanned_tree (slot (last (codes "a") (span 3 4) none (span 4 5))
    (number 1 (span 7 8) (span 6 7) none)
    (slot (last (codes "y") (span 10 11) none (span 11 12))
    (leaf (string (codes "x\r\ny")) (Some (span 14 24)) (decor (span 13 14) none)) no_slots)) none

pub spanned_marked_returns : IsTreeOf spanned_form marked_returns marked_returns_spans
spanned_marked_returns =
    record {
      root = refl;
      slots = (refl, (refl, (refl, refl, refl)), (refl, (refl, (refl, refl, refl)), tt));
      trailing = refl;
    }

pub owned_marked_returns : IsTreeOf owned_form marked_returns
    (owned_tree (byte_order_mark
    ++ codes "a = 1\r\ny = \"\"\"x\r\ny\"\"\"\r\n") marked_returns_spans)
owned_marked_returns =
    record {
      root = refl;
      slots = (refl, (refl, (refl, refl, refl)), (refl, (refl, (refl, refl, refl)), tt));
      trailing = refl;
    }

-- `# x`, `[ a ] # y`, a tab, `b = 1 # z`
abbrev pub commented_spans : Tree
commented_spans =
    spanned_tree (slot (last (codes "a") (span 6 7) (span 5 6) (span 7 8))
    (table (record {
      decor = decor (span 0 4) (span 9 13);
      is_implicit = false;
      is_dotted = false;
      position = Some (pos 1);
      extent = Some (4, 9);
    })
    (slot (last (codes "b") (span 15 16) (span 14 15) (span 16 17))
    (number 1 (span 19 20) (span 18 19) (span 20 24)) no_slots)) no_slots) none

pub spanned_commented : IsTreeOf spanned_form commented commented_spans
spanned_commented = record {
  root = refl;
  slots = (refl, (tt, refl, (refl, (refl, (refl, refl, refl)), tt)), tt);
  trailing = refl;
}

pub owned_commented : IsTreeOf owned_form commented
    (owned_tree (codes "# x\n[ a ] # y\n\tb = 1 # z\n") commented_spans)
owned_commented = record {
  root = refl;
  slots = (refl, (tt, refl, (refl, (refl, (refl, refl, refl)), tt)), tt);
  trailing = refl;
}

-- `a . b = 1`
abbrev pub spaced_dot_spans : Tree
spaced_dot_spans =
    spanned_tree (slot (record (inner (codes "a") (span 0 1)) { dotted = decor none (span 1 2) })
    (table (by_path true (Some (0, 1)))
    (slot (record (last (codes "b") (span 4 5) none (span 5 6)) { dotted = decor (span 3 4) none })
    (number 1 (span 8 9) (span 7 8) none) no_slots)) no_slots) none

pub spanned_spaced_dot : IsTreeOf spanned_form spaced_dot spaced_dot_spans
spanned_spaced_dot = record {
  root = refl;
  slots = (refl, (tt, refl, (refl, (refl, (refl, refl, refl)), tt)), tt);
  trailing = refl;
}

pub owned_spaced_dot : IsTreeOf owned_form spaced_dot
    (owned_tree (codes "a . b = 1\n") spaced_dot_spans)
owned_spaced_dot = record {
  root = refl;
  slots = (refl, (tt, refl, (refl, (refl, (refl, refl, refl)), tt)), tt);
  trailing = refl;
}
