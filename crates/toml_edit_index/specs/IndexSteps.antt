-- What the steps of a walk add to an index. Only private clauses cite them.
use Rattle.std.specs.Prelude.{◌≡◌, ℕ, suc, ◌+◌, List, ◌∷◌, ◌++◌, length, flat_map, Option}
use Rattle.toml_edit_model.specs.Text.{Text}
use Rattle.toml_edit_model.specs.Tree.{Key, Node}
use Rattle.toml_edit_index.specs.Indexed.{Entry, entries_below, names_of, nodes_from, span_from, text_or_none}
use Rattle.toml_edit_index.specs.declared.found.Found.{Found}
use Rattle.toml_edit_index.specs.declared.node.Node.{Node as IndexNode}
use Rattle.toml_edit_index.specs.declared.node.Span.{Span}

-- the nodes of the entries and their names are behind those that were there
pub record Adds (es : List Entry) (old new : Found) : Type 0 where
  pub nodes : new.nodes.items
      ≡ old.nodes.items ++ nodes_from old.lines.bytes.now (length old.names.items) es
  pub names : new.names.items ≡ old.names.items ++ flat_map names_of es
  pub lines : new.lines ≡ old.lines

-- an item under a key, or without one, and what is below it
abbrev pub entries_with : ℕ → ℕ → Option Key → Node → List Entry
entries_with parent at k n =
    let below = entries_below at n in
    record { parent = parent; next = suc at + length below; key = k; item = n } ∷ below

-- a node that says nothing yet of what is behind it
abbrev pub opened : ℕ → Option Key → Node → Entry
opened parent k n = record { parent = parent; next = 0; key = k; item = n }

-- only the node of this number says now that it ends where the nodes end
abbrev pub Closes : ℕ → Found → Found → Type 0
Closes at old new =
    (before behind : List IndexNode) (n : IndexNode)
    → old.nodes.items ≡ before ++ (n ∷ behind) → length before ≡ at
    → (new.nodes.items ≡ before ++ (record n { next = length old.nodes.items } ∷ behind))
    × (new.names ≡ old.names) × (new.lines ≡ old.lines)

-- the names have one more, which the span says, if there is one
pub record AddsName (t : Option Text) (s : Span) (old new : Found) : Type 0 where
  pub names : new.names.items ≡ old.names.items ++ text_or_none t
  pub at : s ≡ span_from (length old.names.items) t
  pub nodes : new.nodes ≡ old.nodes
  pub lines : new.lines ≡ old.lines
