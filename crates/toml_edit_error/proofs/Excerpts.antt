-- The pieces that are written are the excerpt.
use Rattle.std.proofs.Common.{◌≡◌, sym, ap, ◌∙◌, ℕ, suc, ◌+◌, ◌-◌, min, max, [], ◌∷◌, ◌++◌, length, take, drop, replicate, append_assoc}
use Rattle.std.proofs.Common.{append-nil, add-one}
use Rattle.std.specs.Prelude.{codes, decimal}
use Rattle.toml_edit_model.specs.Text.{Text, newline, joined}
use Rattle.toml_edit_error.specs.Place.{place_text}
use Rattle.toml_edit_model.specs.Excerpt.{characters, spaces, line_at, position_in, excerpt_under}

pieces_join : (x a n y c u s o z b w r m : Text)
    → (x ++ (a ++ (n ++ (y ++ (c ++ (u ++ (s ++ (o ++ (u ++ (n ++ (z ++ (b ++ (u ++ (s ++ (o ++ (w ++ (r ++ u))))))))))))))))) ++ (m ++ u)
    ≡ joined (x ∷ a ∷ n ∷ y ∷ c ∷ u ∷ (s ++ o) ∷ u ∷ n ∷ z ∷ b ∷ u ∷ (s ++ o) ∷ w ∷ r ∷ u ∷ m ∷ u ∷ [])
pieces_join x a n y c u s o z b w r m = simp (append_assoc, append-nil)

-- the same with the message, by pieces
abbrev pieces : Text → ℕ → ℕ → Text → ℕ → ℕ → Text → Text
pieces title line column content indent marks message =
    joined (title ∷ codes " at line " ∷ decimal line ∷ codes ", column " ∷ decimal column ∷ newline
    ∷ (spaces (length (decimal line) + 1) ++ codes "|") ∷ newline
    ∷ decimal line ∷ codes " | " ∷ content ∷ newline
    ∷ (spaces (length (decimal line) + 1) ++ codes "|") ∷ spaces indent ∷ replicate marks 0x5E ∷ newline
    ∷ message ∷ newline ∷ [])

-- with the place of the span, it is the excerpt but for the message
pub excerpt_text : (title t message content : Text) (start end line column marks : ℕ)
    → line ≡ suc (position_in t start).line
    → column ≡ suc (position_in t start).column
    → content ≡ line_at (position_in t start).line t
    → marks ≡ max 1 (min (characters (take (end - start) (drop start t)))
    (characters (line_at (position_in t start).line t) - (position_in t start).column))
    → place_text title line column content marks ++ (message ++ newline) ≡ excerpt_under title t start end message
excerpt_text title t message content start end line column marks l c b m =
    let row = (position_in t start).line in
    let place = (position_in t start).column in
    pieces_join title (codes " at line ") (decimal line) (codes ", column ") (decimal column) newline (spaces (length (decimal line) + 1))
    (codes "|")
    (codes " | ") content (spaces column) (replicate marks 0x5E) message
    ∙ ap (λ k. pieces title k column content column marks message) l
    ∙ ap (λ k. pieces title (suc row) k content k marks message) c
    ∙ ap (λ u. pieces title (suc row) (suc place) u (suc place) marks message) b
    ∙ ap (λ k. pieces title (suc row) (suc place) (line_at row t) k marks message) (sym (add-one place))
    ∙ ap (λ k. pieces title (suc row) (suc place) (line_at row t) (place + 1) k message) m
