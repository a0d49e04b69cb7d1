-- The entry checks of a run that enters: the photograph's two pass, and another photograph that passes them enters too. Assumes nothing.
use mathlib.Core.Path.{◌≡◌}
use Prim.Native.Nat.{ℕ}
use mathlib.Core.Bool.{true, ◌&&◌}
use mathlib.Core.List.{List}
use lib.ListN.{length, drop}
use Rattle.std.specs.Prelude.{Ok}
use Rattle.prelude.proofs.Checks.{ok_exactly, all_ok}
use Rattle.prelude.proofs.Tests.{both}
use Rattle.prelude.specs.Checks.{first}
use Rattle.photograph.specs.Photographs.{good_size, good_photograph, photograph_checks}
use Rattle.request.specs.declared.Request.{Request}
use Rattle.request.specs.Requests.{Photograph, entry_checks, entry}

module _ (r : Request) (ms : List ℕ) (p : Photograph) (enters : entry r ms p ≡ Ok tt) where
  -- the photograph's checks pass, and so do those behind them
  pub photograph-passes : (good_size r.width r.height ≡ true) × (good_photograph r.width r.height p.stride (length p.bytes) ≡ true)
      × (first (drop 2 (entry_checks r ms p)) ≡ Ok tt)
  photograph-passes =
      let all = all_ok (photograph_checks r.width r.height p.stride (length p.bytes)) (drop 2 (entry_checks r ms p)) enters in
      let good = both (good_size r.width r.height) (good_photograph r.width r.height p.stride (length p.bytes) && true) ((ok_exactly (photograph_checks r.width r.height p.stride (length p.bytes))).0 all.0) in
      (good.0, (both (good_photograph r.width r.height p.stride (length p.bytes)) true good.1).0, all.1)

  -- another photograph passes them all where its bytes suffice
  pub other_photograph : (q : Photograph) → good_photograph r.width r.height q.stride (length q.bytes) ≡ true → entry r ms q ≡ Ok tt
  other_photograph q good = rw (photograph-passes.0, good) photograph-passes.2
