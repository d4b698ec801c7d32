-- Whether the pairs of an inline table agree is decided by their paths alone.
use Rattle.std.proofs.Common.{◌≡◌, refl, sym, ◌∙◌, ap, ℕ, suc, ◌+◌, true, List, [], ◌∷◌, length}
use Rattle.std.specs.Prelude.{map}
use Rattle.std.specs.List.{list_all}
use Rattle.toml_edit_model.specs.Syntax.{Pairs, no_pairs, pair}
use Rattle.toml_edit_model.specs.Paths.{Mention, PairSource, line_mentions, pair_mentions}
use Rattle.toml_edit_model.specs.Accepted.{agree, all_agree}
use Rattle.toml_edit_model.specs.TreeOf.{Form, Entry, entry_of}
use Rattle.toml_edit_laws.specs.InlineTree.{pair_path, next_pair}
use Rattle.toml_edit_laws.proofs.inline_tables.MentionSources.{bare, line-bare, all_agree-bare}
use Rattle.toml_edit_model.specs.Roles.{may_meet_inline}

module _ (form : Form) where
  -- the mentions of each pair
  abbrev pub entry_paths : Pairs → ℕ → List (List (Mention Entry))
  entry_paths no_pairs start = []
  entry_paths (pair f v ps) start = pair_path form start f v ∷ entry_paths ps (next_pair start f v)

  bare-paths : (ps : Pairs) (start place number : ℕ) → map (map bare) (entry_paths ps start) ≡ map (map bare) (pair_mentions place ps)
  bare-paths no_pairs start place number = refl
  bare-paths (pair f v ps) start place number =
      let source : PairSource = record { frame = f; value = v } in
      ap (λ m. m ∷ map (map bare) (entry_paths ps (next_pair start f v)))
      (line-bare (entry_of form start f v) source (start + length f.leading) (place + length f.leading) [] f.path)
      ∙ ap (λ rest. map bare (line_mentions source (place + length f.leading) [] f.path) ∷ rest)
      (bare-paths ps (next_pair start f v) (next_pair place f v) (suc number))

  -- wherever the table begins, and whatever is told of its pairs
  pub agreement-of : (ps : Pairs) (start place number : ℕ) → all_agree may_meet_inline (entry_paths ps start)
      ≡ all_agree may_meet_inline (pair_mentions place ps)
  agreement-of ps start place number =
      sym (all_agree-bare may_meet_inline (entry_paths ps start))
      ∙ ap (all_agree may_meet_inline) (bare-paths ps start place number)
      ∙ all_agree-bare may_meet_inline (pair_mentions place ps)

  pub all-with-none : (mss : List (List (Mention Entry))) → list_all (agree may_meet_inline []) mss ≡ true
  all-with-none [] = refl
  all-with-none (m ∷ mss) = all-with-none mss
