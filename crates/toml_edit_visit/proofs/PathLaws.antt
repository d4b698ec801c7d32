-- The text of a path, by its last step.
use Rattle.std.proofs.Common.{◌≡◌, refl, sym, ap, ◌∙◌, List, [], ◌∷◌, ◌++◌, codes, append_assoc, append-nil}
use Rattle.std.specs.List.{join_with_byte}
use Rattle.std.specs.Prelude.{map}
use Rattle.toml_edit_model.specs.Text.{Text}
use Rattle.toml_edit_visit.specs.Below.{Step}
use Rattle.toml_edit_visit.specs.Steps.{dotted_text, path_text, step_text}

-- a further piece after the first
further : (x : Text) (ss : List Step) (t : Step) → join_with_byte 46 (x ∷ map step_text (ss ++ (t ∷ [])))
    ≡ (x ++ codes ".") ++ path_text (ss ++ (t ∷ []))
further x [] t = sym (append_assoc x (codes ".") (step_text t))
further x (s ∷ ss) t = sym (append_assoc x (codes ".") (path_text (s ∷ (ss ++ (t ∷ [])))))

pub path_text-last : (ss : List Step) (t : Step) → dotted_text ss ++ step_text t ≡ path_text (ss ++ (t ∷ []))
path_text-last [] t = refl
path_text-last (s ∷ ss) t =
    append_assoc (step_text s ++ codes ".") (dotted_text ss) (step_text t)
    ∙ ap (λ l. (step_text s ++ codes ".") ++ l) (path_text-last ss t) ∙ sym (further (step_text s) ss t)

pub dotted_text-last : (ss : List Step) (t : Step) → dotted_text ss ++ (step_text t ++ codes ".") ≡ dotted_text (ss ++ (t ∷ []))
dotted_text-last [] t = sym (append-nil (step_text t ++ codes "."))
dotted_text-last (s ∷ ss) t =
    append_assoc (step_text s ++ codes ".") (dotted_text ss) (step_text t ++ codes ".")
    ∙ ap (λ l. (step_text s ++ codes ".") ++ l) (dotted_text-last ss t)
