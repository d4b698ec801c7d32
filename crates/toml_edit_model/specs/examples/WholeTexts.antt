-- Worked texts, each whole: its cut by the parts that the grammar asks for, what is computed of it,
-- and its tree by hand, with spans and with texts of its own. Short texts and single values are in
-- `ShortTexts`.
use Rattle.std.specs.Prelude.{◌≡◌, refl, true, false, [], ◌∷◌, ◌++◌, codes, Some}
use Rattle.std.proofs.Common.{inl, inr}
use Rattle.toml_edit_model.specs.Text.{Text, newline, byte_order_mark}
use Rattle.toml_edit_model.specs.Scalars.{string}
use Rattle.toml_edit_model.specs.Spelling.{plain}
use Rattle.toml_edit_model.specs.Syntax.{scalar, key_line, header, Document, IsCut}
use Rattle.toml_edit_model.specs.Accepted.{is_accepted}
use Rattle.toml_edit_model.specs.Meaning.{meaning}
use Rattle.toml_edit_model.specs.Normal.{normal_text, normal}
use Rattle.toml_edit_model.specs.Shown.{shown_meaning}
use Rattle.toml_edit_model.specs.Print.{print}
use Rattle.toml_edit_model.specs.Tree.{span, leaf, table, tables, no_items, item, no_slots, slot, Tree}
use Rattle.toml_edit_model.specs.TreeOf.{spanned_form, owned_form, IsTreeOf}
use Rattle.toml_edit_model.specs.examples.Parts.{spelled_as, line, head, document, a, b, c, x, one_value, two_value}
use Rattle.toml_edit_model.specs.examples.Texts.{reads, all_hold, empty, apart}
use Rattle.toml_edit_model.specs.examples.Cuts.{empty_trivia, empty_end, empty_final, lf_end, IsKey, is_bare, two_keys, bare_key, bare_keys}
use Rattle.toml_edit_model.specs.examples.Cuts.{a_is, ab_is, one_is, two_is, frame_is, head_is, cut}
use Rattle.toml_edit_model.specs.examples.TreesOfTexts.{none, decor, last, inner, number, by_path, by_header, spanned_tree}
use Rattle.toml_edit_model.specs.Settled.{is_settled}
use Rattle.toml_edit_model.specs.OwnedForm.{owned_tree}

-- a tree with spans is of the text with this cut, and the texts that these cut make the tree with
-- texts
abbrev pub HasTree : Document → Text → Tree → Type 0
HasTree doc text t = IsTreeOf spanned_form doc t × IsTreeOf owned_form doc (owned_tree text t)

-- ---- keys

-- `[a. b.c]`, `[a]`, `b.x = 1`: `b` is kept from the first header, and its space stays in that
-- header
abbrev pub spaced_header : Document
spaced_header =
    document (head false (a ∷ record b { before = codes " " } ∷ c ∷ []) ∷ head false (a ∷ [])
    ∷ line (b ∷ x ∷ []) one_value ∷ [])

pub cuts_spaced_header : IsCut spaced_header (codes "[a. b.c]\n[a]\nb.x = 1\n")
cuts_spaced_header =
    cut spaced_header.statements (
      head_is false _ (
        record {
          begins = refl;
          ends = refl;
          spelled = (
            is_bare (codes "a") refl refl,
            (
              is_bare
                  (codes "b") refl refl,
              (is_bare (codes "c") refl refl, tt),
            ),
          );
        },
        ((refl, refl), ((refl, refl), ((refl, refl), tt))),
      ),
      (
        head_is false _ a_is,
        (
          (
            frame_is _
                (bare_keys (codes "b") (codes "x") refl refl refl refl),
            one_is,
            lf_end,
          ),
          tt,
        ),
      ),
    )

reads_spaced_header : reads spaced_header (codes "[a. b.c]\n[a]\nb.x = 1\n")
    (codes "[a. b.c]\n[a]\nb.x = 1\n") ≡ all_hold
unfolding print normal normal_text is_settled meaning shown_meaning is_accepted
reads_spaced_header = refl

pub tree_spaced_header : HasTree spaced_header (codes "[a. b.c]\n[a]\nb.x = 1\n")
    (spanned_tree (slot (last (codes "a") (span 10 11) none none)
    (table (by_header 2 (Some (9, 12)))
    (slot (record (inner (codes "b") (span 4 5)) { dotted = decor (span 3 4) none })
    (table (by_path true (Some (4, 5)))
    (slot (last (codes "c") (span 6 7) none none) (table (by_header 1 (Some (0, 8))) no_slots)
    (slot (last (codes "x") (span 15 16) none (span 16 17))
    (number 1 (span 19 20) (span 18 19) none) no_slots))) no_slots)) no_slots) none)
tree_spaced_header = (
  record {
    root = refl;
    slots = (
      refl,
      (
        tt,
        refl,
        (
          refl,
          (
            tt,
            refl,
            (refl, (tt, refl, tt), (refl, (refl, (refl, refl, refl)), tt)),
          ),
          tt,
        ),
      ),
      tt,
    );
    trailing = refl;
  },
  record {
    root = refl;
    slots = (
      refl,
      (
        tt,
        refl,
        (
          refl,
          (
            tt,
            refl,
            (refl, (tt, refl, tt), (refl, (refl, (refl, refl, refl)), tt)),
          ),
          tt,
        ),
      ),
      tt,
    );
    trailing = refl;
  },
)

-- `"a".b = 1`, `a.c = 2`
abbrev pub quoted_first : Document
quoted_first =
    document (line (spelled_as (codes "a") (codes "\"a\"") ∷ b ∷ []) one_value
    ∷ line (a ∷ c ∷ []) two_value ∷ [])

pub cuts_quoted_first : IsCut quoted_first (codes "\"a\".b = 1\na.c = 2\n")
cuts_quoted_first =
    cut quoted_first.statements (
      (
        frame_is _ (two_keys (codes "a") (codes "\"a\"") (codes "b") (codes "b")
            (inr (inl (plain 0x61 ∷ [], (refl, tt), refl, refl))) (is_bare (codes "b") refl refl)),
        one_is,
        lf_end,
      ),
      ((frame_is _ (bare_keys (codes "a") (codes "c") refl refl refl refl), two_is, lf_end), tt),
    )

reads_quoted_first : reads quoted_first (codes "\"a\".b = 1\na.c = 2\n")
    (codes "\"a\".b = 1\n\"a\".c = 2\n") ≡ all_hold
unfolding print normal normal_text is_settled meaning shown_meaning is_accepted
reads_quoted_first = refl

pub tree_quoted_first : HasTree quoted_first (codes "\"a\".b = 1\na.c = 2\n")
    (spanned_tree (slot (inner (codes "a") (span 0 3)) (table (by_path true (Some (0, 3)))
    (slot (last (codes "b") (span 4 5) none (span 5 6)) (number 1 (span 8 9) (span 7 8) none)
    (slot (last (codes "c") (span 12 13) none (span 13 14))
    (number 2 (span 16 17) (span 15 16) none) no_slots))) no_slots) none)
tree_quoted_first = (
  record {
    root = refl;
    slots = (
      refl,
      (
        tt,
        refl,
        (
          refl,
          (refl, (refl, refl, refl)),
          (
            refl,
            (refl, (refl, refl, refl)),
            tt,
          ),
        ),
      ),
      tt,
    );
    trailing = refl;
  },
  record {
    root = refl;
    slots = (
      refl,
      (
        tt,
        refl,
        (
          refl,
          (refl, (refl, refl, refl)),
          (
            refl,
            (refl, (refl, refl, refl)),
            tt,
          ),
        ),
      ),
      tt,
    );
    trailing = refl;
  },
)

-- `[a.x]`, `[b]`, `[a.y]`
pub tree_apart : HasTree apart (codes "[a.x]\n[b]\n[a.y]\n")
    (spanned_tree (slot (inner (codes "a") (span 1 2)) (table (by_path false (Some (1, 2)))
    (slot (last (codes "x") (span 3 4) none none) (table (by_header 1 (Some (0, 5))) no_slots)
    (slot (last (codes "y") (span 13 14) none none)
    (table (by_header 3 (Some (10, 15))) no_slots) no_slots)))
    (slot (last (codes "b") (span 7 8) none none)
    (table (by_header 2 (Some (6, 9))) no_slots) no_slots)) none)
tree_apart = (
  record {
    root = refl;
    slots = (
      refl,
      (tt, refl, (refl, (tt, refl, tt), (refl, (tt, refl, tt), tt))),
      (
        refl,
        (
          tt,
          refl,
          tt,
        ),
        tt,
      ),
    );
    trailing = refl;
  },
  record {
    root = refl;
    slots = (
      refl,
      (tt, refl, (refl, (tt, refl, tt), (refl, (tt, refl, tt), tt))),
      (
        refl,
        (
          tt,
          refl,
          tt,
        ),
        tt,
      ),
    );
    trailing = refl;
  },
)

-- ---- arrays of tables

-- `[[ a ]]`, `[[a]]`: both are printed with the spaces of the first
abbrev pub spaced_first : Document
spaced_first =
    document (header (record {
      leading = [];
      is_array = true;
      opening = codes " ";
      path = a ∷ [];
      closing = codes " ";
      trailing = [];
    }) newline ∷ head true (a ∷ []) ∷ [])

pub cuts_spaced_first : IsCut spaced_first (codes "[[ a ]]\n[[a]]\n")
cuts_spaced_first =
    cut spaced_first.statements (
      (
        (
          record {
            leading = empty_trivia;
            segments = a_is.1;
            opening = refl;
            closing = refl;
            trailing = empty_end;
          },
          a_is.0,
        ),
        lf_end,
      ),
      (head_is true _ a_is, tt),
    )

reads_spaced_first : reads spaced_first (codes "[[ a ]]\n[[a]]\n") (codes "[[ a ]]\n[[ a ]]\n")
    ≡ all_hold
unfolding print normal normal_text is_settled meaning shown_meaning is_accepted
reads_spaced_first = refl

pub tree_spaced_first : HasTree spaced_first (codes "[[ a ]]\n[[a]]\n")
    (spanned_tree (slot (last (codes "a") (span 3 4) (span 2 3) (span 4 5)) (tables (Some (0, 13))
    (item (table (by_header 1 (Some (0, 7))) no_slots)
    (item (table (by_header 2 (Some (8, 13))) no_slots) no_items))) no_slots) none)
tree_spaced_first = (
  record {
    root = refl;
    slots = (refl, (refl, refl, (refl, tt, (refl, tt, tt))), tt);
    trailing = refl;
  },
  record {
    root = refl;
    slots = (refl, (refl, refl, (refl, tt, (refl, tt, tt))), tt);
    trailing = refl;
  },
)

-- `[[a]]`, `x = 1`, `[[a]]`, `x = 2`: each line is of its element
abbrev pub two_blocks : Document
two_blocks =
    document (head true (a ∷ []) ∷ line (x ∷ []) one_value ∷ head true (a ∷ [])
    ∷ line (x ∷ []) two_value ∷ [])

pub cuts_two_blocks : IsCut two_blocks (codes "[[a]]\nx = 1\n[[a]]\nx = 2\n")
cuts_two_blocks =
    cut two_blocks.statements (
      head_is true _ a_is,
      (
        (frame_is _ x_is, one_is, lf_end),
        (
          head_is true _
              a_is,
          ((frame_is _ x_is, two_is, lf_end), tt),
        ),
      ),
    )
  where
    x_is : IsKey (x ∷ [])
    x_is = bare_key (codes "x") refl refl

reads_two_blocks : reads two_blocks (codes "[[a]]\nx = 1\n[[a]]\nx = 2\n")
    (codes "[[a]]\nx = 1\n[[a]]\nx = 2\n") ≡ all_hold
unfolding print normal normal_text is_settled meaning shown_meaning is_accepted
reads_two_blocks = refl

pub tree_two_blocks : HasTree two_blocks (codes "[[a]]\nx = 1\n[[a]]\nx = 2\n")
    (spanned_tree (slot (last (codes "a") (span 2 3) none none) (tables (Some (0, 17))
    (item (table (by_header 1 (Some (0, 5)))
    (slot (last (codes "x") (span 6 7) none (span 7 8))
    (number 1 (span 10 11) (span 9 10) none) no_slots))
    (item (table (by_header 2 (Some (12, 17)))
    (slot (last (codes "x") (span 18 19) none (span 19 20))
    (number 2 (span 22 23) (span 21 22) none) no_slots))
    no_items))) no_slots) none)
tree_two_blocks = (
  record {
    root = refl;
    slots = (
      refl,
      (
        refl,
        refl,
        (
          refl,
          (
            refl,
            (refl, (refl, refl, refl)),
            tt,
          ),
          (refl, (refl, (refl, (refl, refl, refl)), tt), tt),
        ),
      ),
      tt,
    );
    trailing = refl;
  },
  record {
    root = refl;
    slots = (
      refl,
      (
        refl,
        refl,
        (
          refl,
          (
            refl,
            (refl, (refl, refl, refl)),
            tt,
          ),
          (refl, (refl, (refl, (refl, refl, refl)), tt), tt),
        ),
      ),
      tt,
    );
    trailing = refl;
  },
)

-- `[[a]]`, `[[a.b]]`, `[[a]]`, `[[a.b]]`, `x = 1`: a new array in each element
abbrev pub arrays_in_elements : Document
arrays_in_elements =
    document (head true (a ∷ []) ∷ head true (a ∷ b ∷ []) ∷ head true (a ∷ [])
    ∷ head true (a ∷ b ∷ []) ∷ line (x ∷ []) one_value ∷ [])

pub cuts_arrays_in_elements : IsCut arrays_in_elements
    (codes "[[a]]\n[[a.b]]\n[[a]]\n[[a.b]]\nx = 1\n")
cuts_arrays_in_elements =
    cut arrays_in_elements.statements (
      head_is true _ a_is,
      (
        head_is true _ ab_is,
        (
          head_is true _ a_is,
          (
            head_is true _ ab_is,
            (
              (
                frame_is _
                    (bare_key (codes "x") refl refl),
                one_is,
                lf_end,
              ),
              tt,
            ),
          ),
        ),
      ),
    )

reads_arrays_in_elements : reads arrays_in_elements
    (codes "[[a]]\n[[a.b]]\n[[a]]\n[[a.b]]\nx = 1\n")
    (codes "[[a]]\n[[a.b]]\n[[a]]\n[[a.b]]\nx = 1\n") ≡ all_hold
unfolding print normal normal_text is_settled meaning shown_meaning is_accepted
reads_arrays_in_elements = refl

pub tree_arrays_in_elements : HasTree arrays_in_elements
    (codes "[[a]]\n[[a.b]]\n[[a]]\n[[a.b]]\nx = 1\n")
    (spanned_tree (slot (last (codes "a") (span 2 3) none none) (tables (Some (0, 19))
    (item (table (by_header 1 (Some (0, 5)))
    (slot (last (codes "b") (span 10 11) none none)
    (tables (Some (6, 13))
    (item (table (by_header 2 (Some (6, 13))) no_slots) no_items)) no_slots))
    (item (table (by_header 3 (Some (14, 19)))
    (slot (last (codes "b") (span 24 25) none none)
    (tables (Some (20, 27)) (item (table (by_header 4 (Some (20, 27)))
    (slot (last (codes "x") (span 28 29) none (span 29 30))
    (number 1 (span 32 33) (span 31 32) none) no_slots)) no_items)) no_slots))
    no_items))) no_slots) none)
tree_arrays_in_elements = (
  record {
    root = refl;
    slots = (
      refl,
      (
        refl,
        refl,
        (
          refl,
          (
            refl,
            (refl, refl, (refl, tt, tt)),
            tt,
          ),
          (
            refl,
            (refl, (refl, refl, (refl, (refl, (refl, (refl, refl, refl)), tt), tt)), tt),
            tt,
          ),
        ),
      ),
      tt,
    );
    trailing = refl;
  },
  record {
    root = refl;
    slots = (
      refl,
      (
        refl,
        refl,
        (
          refl,
          (
            refl,
            (refl, refl, (refl, tt, tt)),
            tt,
          ),
          (
            refl,
            (refl, (refl, refl, (refl, (refl, (refl, (refl, refl, refl)), tt), tt)), tt),
            tt,
          ),
        ),
      ),
      tt,
    );
    trailing = refl;
  },
)

-- ---- U+FEFF

-- alone
abbrev pub mark_alone : Document
mark_alone = record empty { has_mark = true }

pub cuts_mark_alone : IsCut mark_alone byte_order_mark
cuts_mark_alone = ((tt, empty_final), refl)

reads_mark_alone : reads mark_alone byte_order_mark [] ≡ all_hold
unfolding print normal normal_text is_settled meaning shown_meaning is_accepted
reads_mark_alone = refl

pub tree_mark_alone : HasTree mark_alone byte_order_mark (spanned_tree no_slots none)
tree_mark_alone = (
  record { root = refl; slots = tt; trailing = refl },
  record {
    root = refl;
    slots = tt;
    trailing = refl;
  },
)

-- in a string and in a comment: `a = "`, U+FEFF, `" # `, U+FEFF
abbrev marks_inside_text : Text
marks_inside_text =
    codes "a = \"" ++ (byte_order_mark ++ (codes "\" # " ++ (byte_order_mark ++ newline)))

abbrev pub marks_inside : Document
marks_inside =
    document (key_line (record {
      leading = [];
      path = a ∷ [];
      before_equals = codes " ";
      after_equals = codes " ";
      trailing = codes " # " ++ byte_order_mark;
    })
    (scalar (string byte_order_mark) (codes "\"" ++ (byte_order_mark ++ codes "\""))) newline ∷ [])

pub cuts_marks_inside : IsCut marks_inside marks_inside_text
cuts_marks_inside =
    cut marks_inside.statements (
      (
        (
          record {
            leading = empty_trivia;
            segments = a_is.1;
            before_equals = refl;
            after_equals = refl;
            trailing = (
              codes " ",
              codes "# "
                  ++ byte_order_mark,
              refl,
              inr (codes " " ++ byte_order_mark, refl, refl),
              refl,
            );
          },
          a_is.0,
        ),
        inl (inl (
          plain 0xEF ∷ plain 0xBB ∷ plain 0xBF
              ∷ [],
          (refl, (refl, (refl, tt))),
          refl,
          refl,
        )),
        lf_end,
      ),
      tt,
    )

reads_marks_inside : reads marks_inside marks_inside_text marks_inside_text ≡ all_hold
unfolding print normal normal_text is_settled meaning shown_meaning is_accepted
reads_marks_inside = refl

pub tree_marks_inside : HasTree marks_inside marks_inside_text
    (spanned_tree (slot (last (codes "a") (span 0 1) none (span 1 2))
    (leaf (string byte_order_mark) (Some (span 4 9))
    (decor (span 3 4) (span 9 15))) no_slots) none)
tree_marks_inside = (
  record { root = refl; slots = (refl, (refl, (refl, refl, refl)), tt); trailing = refl },
  record { root = refl; slots = (refl, (refl, (refl, refl, refl)), tt); trailing = refl },
)
