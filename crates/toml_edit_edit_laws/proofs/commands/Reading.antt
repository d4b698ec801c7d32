-- The tree of what was read: its statements are those of the normal text, and an edited tree's print is the normal text with others.
use Rattle.std.proofs.Common.{◌≡◌, sym, ◌∙◌, ap, false, List, [], ◌++◌}
use Rattle.std.specs.Prelude.{map}
use Rattle.toml_edit_model.specs.Mode.{Mode}
use Rattle.toml_edit_model.specs.Text.{Text, joined}
use Rattle.toml_edit_model.specs.Syntax.{Statement, Document, document_text, statement_text}
use Rattle.toml_edit_model.specs.Normal.{normal_in, has_open_end, normal_last}
use Rattle.toml_edit_model.specs.Tree.{Node, TableFields, Tree, shown_prefix, shown_suffix, shown_raw}
use Rattle.toml_edit_model.specs.Print.{printed, add_before, final_of, written_statements}
use Rattle.toml_edit_model.specs.Slots.{Slot}
use Rattle.toml_edit_laws.specs.Locality.{Turn, edited, statements, framed}
use Rattle.toml_edit_edit_laws.specs.CommandLaws.{IsRead, text_with, print_as}
use Rattle.toml_edit_laws.proofs.print_of_read.PrintOfRead.{printed_normal, written-last}
use Rattle.toml_edit_laws.proofs.common.Statements.{add-nothing, final-nothing}

-- a document of its parts
abbrev of_parts : Text → Text → Text → List Statement → Document
of_parts before after trailing ss =
    record { has_mark = false; statements = add_before before ss; final = final_of before ss (after ++ trailing) }

abbrev plain_document : Text → List Statement → Document
plain_document final ss = record { has_mark = false; statements = ss; final = final }

module _ (mode : Mode) where
  -- the last statement has no newline where that of the document has none
  pub normal-is : (d : Document) (t : Tree) → IsRead mode d t
      → normal_in mode d ≡ plain_document (shown_raw mode t.trailing) (normal_last mode d (statements (printed mode t)))
  normal-is d t read =
      let ss = normal_last mode d (statements (printed mode t)) in
      sym (printed_normal mode d read.is_document read.accepted t read.tree)
      ∙ ap (λ (f : TableFields). of_parts (shown_prefix mode [] f.decor) (shown_suffix mode [] f.decor) (shown_raw mode t.trailing)
      (written_statements mode (has_open_end d.statements) t)) read.tree.root
      ∙ ap (of_parts [] [] (shown_raw mode t.trailing)) (written-last mode d read.is_document t read.tree.root read.tree.trailing)
      ∙ ap (λ xs. record { has_mark = false; statements = xs; final = final_of [] ss (shown_raw mode t.trailing) }) (add-nothing ss)
      ∙ ap (λ x. record { has_mark = false; statements = ss; final = x }) (final-nothing ss (shown_raw mode t.trailing))

  pub statements-read : (d : Document) (t : Tree) → IsRead mode d t → (normal_in mode d).statements
      ≡ normal_last mode d (statements (printed mode t))
  statements-read d t read = ap (λ (e : Document). e.statements) (normal-is d t read)

  -- the text with other statements
  pub with-framed : (d : Document) (t : Tree) → IsRead mode d t → (ss : List Statement)
      → text_with mode d ss ≡ framed mode t (joined (map statement_text (normal_last mode d ss)))
  with-framed d t read ss =
      let last = normal_last mode d ss in
      ap (λ (e : Document). document_text (record e { statements = last })) (normal-is d t read)
      ∙ ap (λ (f : TableFields). shown_prefix mode [] f.decor
      ++ (joined (map statement_text last) ++ (shown_suffix mode [] f.decor ++ shown_raw mode t.trailing))) (sym read.tree.root)

  -- the print of an edited tree, its end open where that of the document is
  pub edited-text : (d : Document) (t : Tree) → IsRead mode d t → (way : List Turn) (g : List (Slot Node) → List (Slot Node))
      → print_as mode d (edited way g t) ≡ text_with mode d (statements (printed mode (edited way g t)))
  edited-text d t read way g =
      ap (λ ss. framed mode t (joined (map statement_text ss)))
      (written-last mode d read.is_document (edited way g t) read.tree.root read.tree.trailing)
      ∙ sym (with-framed d t read (statements (printed mode (edited way g t))))
