-- The one data field of a `Strip`. Assumes `Logic`.
use Rattle.std.proofs.Common.{◌≡◌, List, [], ◌∷◌, ◌++◌, refl, ap, ◌∙◌, T}
use seplogic.Ra.Ura.{Ura}
use base.Logic.{ent, emp}
use mir.Val.{has_ty, WT, Val, vstruct, vcons, vnil, of_list}
use types.Logic.{Logic, sem}
use denote.Copied.{Struct-Copied}
use denote.Laws.{Is}
use denote.Opens.{Opens}
use denote.RattleType.{RattleType}
use denote.Param.{layout}
use denote.RawPtr.{Ptr, block_ptr, null_ptr, ptr_val, InBlock}
use denote.Shadow.{makes_shadow}
use denote.Struct.Laws.{RawPtr-copy}
use denote.Struct.Struct.{Struct}
use denote.Struct.Owning.{shape}
use Rattle.toml_edit_text.specs.contracts.strip.Strip as C

abbrev pub strip_val : Ptr → Val
strip_val p = vstruct (vcons (ptr_val p) vnil)

abbrev pub Data : RattleType
Data = Struct (shape C.the_type)

pub strip_told : (p : Ptr) (vs : List Val) → Is Data (p, tt) vs → vs ≡ strip_val p ∷ []
strip_told p vs is = is.1.0 ∙ ap (λ (ws : List Val). vstruct (of_list (ws ++ [])) ∷ []) is.1.1.0

module _ {M : Type 1} {𝓤 : Ura M} (𝓛 : Logic 𝓤) where
  pub strip_made : (p : Ptr) → ent 𝓤 (emp 𝓤) (sem 𝓛 (Data.own_val (p, tt) (strip_val p ∷ [])))
  strip_made p = makes_shadow 𝓛 (Data.own_val (p, tt) (strip_val p ∷ [])) (λ vss. (tt, (tt, tt))) ((ptr_val p ∷ [], tt), (refl, (refl, tt)))

  pub strip_opens : Opens 𝓛 Data
  strip_opens = (Struct-Copied 𝓛 (shape C.the_type) (refl, tt) (RawPtr-copy.copied M 𝓤 𝓛, tt)).opens

pub strip_good : (p : Ptr) → InBlock p → T (has_ty (layout Data) (strip_val p)) × WT (strip_val p)
strip_good (block_ptr b o) i = (tt, (tt, tt))
strip_good null_ptr i = absurd i
