-- What one call of a list makes of a desk.
use Rattle.std.proofs.Common.{◌≡◌, ℕ, ◌<◌, List, [], ◌∷◌, ◌++◌, take, get_or, length, slice_get, Some, refl, sym, ap}
use Rattle.std.proofs.Common.{subst, ◌∙◌}
use Rattle.std.proofs.lemmas.Option.{slice_get-get_or}
use Rattle.lock_api_desk.specs.declared.fault.DeskFault.{DeskFault}
use Rattle.lock_api_desk.specs.declared.call.DeskCall.{DeskCall}
use Rattle.lock_api_desk.specs.Desk.{DeskState}
use Rattle.lock_api_desk.specs.Calls.{Makes, Refuses, Runs, IsStopped}

-- one more call at the end of a run
pub runs_more : {T : Type 0} (calls : List (DeskCall T)) (call : DeskCall T) (old mid new : DeskState T)
    → Runs calls old mid → Makes call mid new → Runs (calls ++ call ∷ []) old new
runs_more [] call old mid new ran made =
    (new, (let P = λ (s : DeskState _). Makes call s new in subst P ran made), refl)
runs_more (first ∷ calls) call old mid new ran made = (ran.0, ran.1, runs_more calls call ran.0 mid new ran.2 made)

-- a run stops at a call that is refused
pub stopped_at : {T : Type 0} (calls so_far : List (DeskCall T)) (old mid new : DeskState T) (place : ℕ)
    (fault : DeskFault) (call : DeskCall T) → place ≡ length so_far → so_far ≡ take (length so_far) calls
    → length so_far < length calls → call ≡ get_or calls (length so_far) call → Runs so_far old mid
    → Refuses call mid fault → new ≡ mid → IsStopped calls old new (record { place = place; fault = fault })
stopped_at {T} calls so_far old mid new place fault call counted front within here ran refused same =
    let P = λ (cs : List (DeskCall T)). Runs cs old new in
    let Q = λ (s : DeskState T). Runs so_far old s in
    let F = λ (s : DeskState T). Refuses call s fault in
    record {
      ran = subst P (front ∙ ap (λ n. take n calls) (sym counted)) (subst Q (sym same) ran);
      call = call;
      at = ap (λ n. slice_get calls n) counted ∙ slice_get-get_or calls (length so_far) call within
          ∙ ap (λ x. Some x) (sym here);
      refused = subst F (sym same) refused;
    }
