-- What is written, with the places of the comments that are aligned: what the bits and the pieces of a
-- document have in common.
use Rattle.std.proofs.Common.{◌≡◌, refl, sym, ap, subst, ◌∙◌, ℕ, ◌+◌, ◌≤◌, ◌==◌, arith, Bool, false, List, [], ◌∷◌, ◌++◌, append_assoc}
use Rattle.std.specs.Prelude.{◌&&◌}
use Rattle.toml_edit_model.specs.Paths.{Path, same_path}
use Rattle.toml_edit_model.specs.Text.{Text, one}
use Rattle.toml_edit_fmt_laws.specs.Rules.{Comments, as_they_are, apart, aligned, spaces}
use Rattle.toml_edit_fmt_laws.specs.Aligned.{Piece, words, place, are_beside, newlines}
use Rattle.toml_edit_fmt.specs.PageView as bits
use Rattle.toml_edit_fmt.specs.PageView.{Bit, letters}
use Rattle.toml_edit_fmt.proofs.FirstLaws.{newlines-append}
use Rattle.toml_edit_fmt.proofs.PageLaws.{HasNoPlace, all_letters}
use Rattle.toml_edit_fmt.proofs.PieceLaws.{run_of, run-after, run-split}

-- the place of a comment of this statement, beside the member at this path of a list at this depth
pub record Spot : Type 0 where
  pub statement : ℕ
  pub path : Path
  pub depth : ℕ

pub data Item : Type 0 where
  text : Text → Item
  spot : Spot → Item

abbrev pub Pads : Type 0
Pads = ℕ → Path → ℕ

abbrev pub bits_of : List Item → List Bit
bits_of [] = []
bits_of (text t ∷ xs) = letters t ∷ bits_of xs
bits_of (spot s ∷ xs) = bits.place s.depth ∷ bits_of xs

abbrev pub pieces_of : Pads → List Item → List Piece
pieces_of f [] = []
pieces_of f (text t ∷ xs) = words t ∷ pieces_of f xs
pieces_of f (spot s ∷ xs) = place s.statement s.path ∷ words (spaces (f s.statement s.path)) ∷ pieces_of f xs

bits-append : (xs ys : List Item) → bits_of (xs ++ ys) ≡ bits_of xs ++ bits_of ys
bits-append [] ys = refl
bits-append (text t ∷ xs) ys = ap (λ bs. letters t ∷ bs) (bits-append xs ys)
bits-append (spot s ∷ xs) ys = ap (λ bs. bits.place s.depth ∷ bs) (bits-append xs ys)

pieces-append : (f : Pads) (xs ys : List Item) → pieces_of f (xs ++ ys) ≡ pieces_of f xs ++ pieces_of f ys
pieces-append f [] ys = refl
pieces-append f (text t ∷ xs) ys = ap (λ ps. words t ∷ ps) (pieces-append f xs ys)
pieces-append f (spot s ∷ xs) ys =
    ap (λ ps. place s.statement s.path ∷ words (spaces (f s.statement s.path)) ∷ ps) (pieces-append f xs ys)

-- ---- places one after another

-- the places so far, the last one first, and the newlines since then
pub record Reached : Type 0 where
  pub seen : List Spot
  pub count : ℕ

abbrev pub AllSpots : (Spot → Type 0) → List Spot → Type 0
AllSpots P [] = Unit {0}
AllSpots P (s ∷ ss) = P s × AllSpots P ss

pub all-spots : (P Q : Spot → Type 0) → ((s : Spot) → P s → Q s) → (ss : List Spot) → AllSpots P ss → AllSpots Q ss
all-spots P Q f [] h = tt
all-spots P Q f (s ∷ ss) h = (f s h.0, all-spots P Q f ss h.1)

pub all-both : (P Q : Spot → Type 0) → (ss : List Spot) → AllSpots P ss → AllSpots Q ss → AllSpots (λ s. P s × Q s) ss
all-both P Q [] h g = tt
all-both P Q (s ∷ ss) h g = ((h.0, g.0), all-both P Q ss h.1 g.1)

abbrev pub is_spot : Spot → Spot → Bool
is_spot s q = (q.statement == s.statement) && same_path q.path s.path

abbrev pub IsNew : Spot → List Spot → Type 0
IsNew s ss = AllSpots (λ q. is_spot s q ≡ false) ss

-- On the line below the last place it is of the same list if it is at the same depth.
abbrev pub Follows : Spot → List Spot → ℕ → Type 0
Follows s [] n = Unit {0}
Follows s (q ∷ ss) n = 1 ≤ n × (n ≡ 1 → (q.depth == s.depth) ≡ are_beside q.path s.path)

abbrev pub Fits : Reached → List Item → Type 0
Fits at [] = Unit {0}
Fits at (text t ∷ xs) = Fits (record { seen = at.seen; count = at.count + newlines t }) xs
Fits at (spot s ∷ xs) =
    IsNew s at.seen × Follows s at.seen at.count × Fits (record { seen = s ∷ at.seen; count = 0 }) xs

-- from places that pass one test, these fit and lead to ones that pass the other
abbrev pub Lead : (Reached → Type 0) → List Item → (Reached → Type 0) → Type 0
Lead P xs Q = (at : Reached) → P at → (more : List Item) → ((to : Reached) → Q to → Fits to more) → Fits at (xs ++ more)

-- ---- parts of a document

abbrev pub HasNoSpot : List Item → Type 0
HasNoSpot [] = Unit {0}
HasNoSpot (text t ∷ xs) = HasNoSpot xs
HasNoSpot (spot s ∷ xs) = ⊥

-- no places where no comments are aligned
abbrev pub MayHaveSpots : Comments → List Item → Type 0
MayHaveSpots as_they_are xs = HasNoSpot xs
MayHaveSpots (apart k) xs = HasNoSpot xs
MayHaveSpots (aligned k) xs = Unit {0}

no-spot-append : (xs ys : List Item) → HasNoSpot xs → HasNoSpot ys → HasNoSpot (xs ++ ys)
no-spot-append [] ys h g = g
no-spot-append (text t ∷ xs) ys h g = no-spot-append xs ys h g
no-spot-append (spot s ∷ xs) ys h g = absurd h

spots-append : (c : Comments) (xs ys : List Item) → MayHaveSpots c xs → MayHaveSpots c ys → MayHaveSpots c (xs ++ ys)
spots-append as_they_are xs ys h g = no-spot-append xs ys h g
spots-append (apart k) xs ys h g = no-spot-append xs ys h g
spots-append (aligned k) xs ys h g = tt

spots-none : (c : Comments) (xs : List Item) → HasNoSpot xs → MayHaveSpots c xs
spots-none as_they_are xs h = h
spots-none (apart k) xs h = h
spots-none (aligned k) xs h = tt

-- These bits are of these pieces, for all spaces before comments.
pub record Part (c : Comments) (P Q : Reached → Type 0) (bs : List Bit) (ps : Pads → List Piece) : Type 0 where
  pub items : List Item
  pub bits : bits_of items ≡ bs
  pub spots : MayHaveSpots c items
  pub pieces : (f : Pads) (more : List Piece) → run_of c (ps f ++ more) ≡ run_of c (pieces_of f items ++ more)
  pub fits : Lead P items Q

module _ (c : Comments) where
  pub none : (P Q : Reached → Type 0) → ((at : Reached) → P at → Q at) → Part c P Q [] (λ f. [])
  none P Q go = record { items = []; bits = refl; spots = spots-none c [] tt; pieces = λ f more. refl; fits = λ at h more next. next at (go at h) }

  pub both : (P Q R : Reached → Type 0) (xs ys : List Bit) (ps qs : Pads → List Piece)
      → Part c P Q xs ps → Part c Q R ys qs → Part c P R (xs ++ ys) (λ f. ps f ++ qs f)
  both P Q R xs ys ps qs g h =
      record {
        items = g.items ++ h.items;
        bits = bits-append g.items h.items ∙ ap (λ bs. bs ++ bits_of h.items) g.bits ∙ ap (λ bs. xs ++ bs) h.bits;
        spots = spots-append c g.items h.items g.spots h.spots;
        pieces = λ f more.
            ap (run_of c) (append_assoc (ps f) (qs f) more)
            ∙ g.pieces f (qs f ++ more)
            ∙ run-after c (pieces_of f g.items) (qs f ++ more) (pieces_of f h.items ++ more) (h.pieces f more)
            ∙ sym (ap (run_of c) (append_assoc (pieces_of f g.items) (pieces_of f h.items) more))
            ∙ sym (ap (λ us. run_of c (us ++ more)) (pieces-append f g.items h.items));
        fits = λ at p more next.
            subst (Fits at) (sym (append_assoc g.items h.items more))
            (g.fits at p (h.items ++ more) (λ to q. h.fits to q more next));
      }

  pub cut : (P Q : Reached → Type 0) (xs ys : List Bit) (ps qs : Pads → List Piece) → xs ≡ ys
      → ((f : Pads) (more : List Piece) → run_of c (qs f ++ more) ≡ run_of c (ps f ++ more))
      → Part c P Q xs ps → Part c P Q ys qs
  cut P Q xs ys ps qs e same g =
      record { items = g.items; bits = g.bits ∙ e; spots = g.spots; pieces = λ f more. same f more ∙ g.pieces f more; fits = g.fits }

  pub turned : (P Q R S : Reached → Type 0) (xs : List Bit) (ps : Pads → List Piece) → ((at : Reached) → P at → Q at)
      → ((at : Reached) → R at → S at) → Part c Q R xs ps → Part c P S xs ps
  turned P Q R S xs ps before after g =
      record { items = g.items; bits = g.bits; spots = g.spots; pieces = g.pieces; fits = λ at p more next. g.fits at (before at p) more (λ to q. next to (after to q)) }

  -- a text
  pub word : (P Q : Reached → Type 0) (t : Text) → ((at : Reached) → P at → Q (record { seen = at.seen; count = at.count + newlines t }))
      → Part c P Q (one (letters t)) (λ f. one (words t))
  word P Q t go =
      record { items = one (text t); bits = refl; spots = spots-none c (one (text t)) tt; pieces = λ f more. refl; fits = λ at h more next. next _ (go at h) }

-- ---- bits without places

abbrev items_of : List Bit → List Item
items_of [] = []
items_of (letters t ∷ bs) = text t ∷ items_of bs
items_of (bits.place depth ∷ bs) = items_of bs

plain-bits : (bs : List Bit) → HasNoPlace bs → bits_of (items_of bs) ≡ bs
plain-bits [] h = refl
plain-bits (letters t ∷ bs) h = ap (λ xs. letters t ∷ xs) (plain-bits bs h)
plain-bits (bits.place depth ∷ bs) h = absurd h

plain-spots : (bs : List Bit) → HasNoSpot (items_of bs)
plain-spots [] = tt
plain-spots (letters t ∷ bs) = plain-spots bs
plain-spots (bits.place depth ∷ bs) = plain-spots bs

plain-pieces : (c : Comments) (f : Pads) (bs : List Bit) (more : List Piece) → HasNoPlace bs
    → run_of c (words (all_letters bs) ∷ more) ≡ run_of c (pieces_of f (items_of bs) ++ more)
plain-pieces c f [] more h = refl
plain-pieces c f (letters t ∷ bs) more h =
    run-split c t (all_letters bs) more
    ∙ run-after c (one (words t)) (words (all_letters bs) ∷ more) (pieces_of f (items_of bs) ++ more) (plain-pieces c f bs more h)
plain-pieces c f (bits.place depth ∷ bs) more h = absurd h

plain-fits : (bs : List Bit) (at : Reached) (more : List Item) → HasNoPlace bs
    → Fits (record { seen = at.seen; count = at.count + newlines (all_letters bs) }) more → Fits at (items_of bs ++ more)
plain-fits [] at more h fits =
    let same : at.count + newlines [] ≡ at.count = omega arith in
    subst (λ n. Fits (record { seen = at.seen; count = n }) more) same fits
plain-fits (letters t ∷ bs) at more h fits =
    let same : at.count + newlines (t ++ all_letters bs) ≡ (at.count + newlines t) + newlines (all_letters bs) =
    omega (arith, newlines-append t (all_letters bs)) in
    plain-fits bs (record { seen = at.seen; count = at.count + newlines t }) more h
    (subst (λ n. Fits (record { seen = at.seen; count = n }) more) same fits)
plain-fits (bits.place depth ∷ bs) at more h fits = absurd h

pub plain : (c : Comments) (P Q : Reached → Type 0) (bs : List Bit) (u : Text) → HasNoPlace bs → all_letters bs ≡ u
    → ((at : Reached) → P at → Q (record { seen = at.seen; count = at.count + newlines u }))
    → Part c P Q bs (λ f. one (words u))
plain c P Q bs u h e go =
    record {
      items = items_of bs;
      bits = plain-bits bs h;
      spots = spots-none c (items_of bs) (plain-spots bs);
      pieces = λ f more. ap (λ v. run_of c (words v ∷ more)) (sym e) ∙ plain-pieces c f bs more h;
      fits = λ at p more next.
          plain-fits bs at more h
          (next _ (subst (λ v. Q (record { seen = at.seen; count = at.count + newlines v })) (sym e) (go at p)));
    }
