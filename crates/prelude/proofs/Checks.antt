-- Ordered checks: nothing is refused exactly where all pass, and more checks behind count where those before pass. By induction on the list. Assumes nothing.
use mathlib.Core.Path.{◌≡◌, refl, sym, subst, ◌∙◌}
use mathlib.Core.Logic.{◌↔◌}
use mathlib.Core.Bool.{Bool, true, false, ◌&&◌, true≢false}
use mathlib.Core.List.{List, [], ◌∷◌, ◌++◌}
use Rattle.std.specs.Prelude.{Result, Ok, Err}
use Rattle.std.specs.Result.{result_and}
use Rattle.prelude.specs.Prelude.{when◌then◌else◌}
use Rattle.prelude.specs.Checks.{Check, first, all_pass}
use Rattle.prelude.proofs.Lists.{Each}
use Rattle.prelude.proofs.Results.{err_not-ok, err_of, ok_not-err}

-- ---- nothing is refused exactly where all pass

all-where_ok : {E : Type 0} (cs : List (Check E)) → first cs ≡ Ok tt → all_pass cs ≡ true
all-where_ok [] h = refl
all-where_ok (c ∷ cs) h = go c.passes h (all-where_ok cs)
  where
    go : (b : Bool) → (when b then first cs else Err c.refusal) ≡ Ok tt → (first cs ≡ Ok tt → all_pass cs ≡ true) → (b && all_pass cs) ≡ true
    go true h rest = rest h
    go false h rest = absurd (err_not-ok h)

ok_where-all : {E : Type 0} (cs : List (Check E)) → all_pass cs ≡ true → first cs ≡ Ok tt
ok_where-all [] h = refl
ok_where-all (c ∷ cs) h = go c.passes h (ok_where-all cs)
  where
    go : (b : Bool) → (b && all_pass cs) ≡ true → (all_pass cs ≡ true → first cs ≡ Ok tt) → (when b then first cs else Err c.refusal) ≡ Ok tt
    go true h rest = rest h
    go false h rest = absurd (true≢false (sym h))

pub ok_exactly : {E : Type 0} (cs : List (Check E)) → (first cs ≡ Ok tt) ↔ (all_pass cs ≡ true)
ok_exactly cs = (all-where_ok cs, ok_where-all cs)

-- ---- more checks behind

pub behind : {E : Type 0} (cs ds : List (Check E)) → first (cs ++ ds) ≡ result_and (first cs) (first ds)
behind [] ds = refl
behind (c ∷ cs) ds = go c.passes (behind cs ds)
  where
    go : (b : Bool) → first (cs ++ ds) ≡ result_and (first cs) (first ds)
        → (when b then first (cs ++ ds) else Err c.refusal) ≡ result_and (when b then first cs else Err c.refusal) (first ds)
    go true more = more
    go false more = refl

-- those before refuse
pub refused_before : {E : Type 0} (cs ds : List (Check E)) (e : E) → first cs ≡ Err e → first (cs ++ ds) ≡ Err e
refused_before cs ds e h = behind cs ds ∙ rw h

-- those before pass
pub passed_before : {E : Type 0} (cs ds : List (Check E)) → first cs ≡ Ok tt → first (cs ++ ds) ≡ first ds
passed_before cs ds h = behind cs ds ∙ rw h

-- where all pass, those before do and those behind do
pub all_ok : {E : Type 0} (cs ds : List (Check E)) → first (cs ++ ds) ≡ Ok tt → (first cs ≡ Ok tt) × (first ds ≡ Ok tt)
all_ok cs ds h = go (first cs) (first ds) (sym (behind cs ds) ∙ h)
  where
    go : {E : Type 0} (a b : Result (Unit {0}) E) → result_and a b ≡ Ok tt → (a ≡ Ok tt) × (b ≡ Ok tt)
    go (Ok x) b h = (refl, h)
    go (Err e) b h = absurd (err_not-ok h)

-- what is refused is refused by one of them
pub refused_by : {E : Type 0} (P : E → Type 0) (cs : List (Check E)) → Each (λ (c : Check E). P c.refusal) cs → (e : E) → first cs ≡ Err e → P e
refused_by P [] all e h = absurd (ok_not-err h)
refused_by {E} P (c ∷ cs) all e h = go c.passes h (refused_by P cs all.1 e)
  where
    go : (b : Bool) → (when b then first cs else Err c.refusal) ≡ Err e → (first cs ≡ Err e → P e) → P e
    go true k rest = rest k
    go false k rest = subst P (err_of k) all.0
