-- What a misfit of the code is a view of, and what a walk reports.
use Rattle.std.specs.Prelude.{◌≡◌, false, List, reverse, slice_get}
use Rattle.std.specs.Option.{MatchOption}
use Rattle.toml_edit_fits.specs.declared.misfit.Misfit.{Misfit}
use Rattle.toml_edit_fits.specs.declared.report.Trail.{Trail}
use Rattle.toml_edit_fits.specs.Misfits.{MisfitView}

abbrev pub misfit_view : Misfit → MisfitView
misfit_view m = record { path = m.path.items; rule = m.rule }

-- the steps come in reverse; where memory ran out, some are missing
abbrev pub TrailTells : Trail → MisfitView → Type 0
TrailTells t m = t.refused ≡ false → record { path = reverse t.steps.items; rule = t.rule } ≡ m

-- A walk over a part with these misfits comes to the good end just where there are none. Else it
-- comes to the bad end, and the report has the first.
abbrev pub Reports : {R A : Type 0} → (R → MisfitView → Type 0) → List MisfitView → A → A → A → R → Type 0
Reports tells ms good bad end report =
    MatchOption (slice_get ms 0) (end ≡ good) (λ m. (end ≡ bad) × tells report m)
