-- A session that stands open has a call left: its guard's drop.
use Rattle.std.proofs.Common.{◌≡◌, ℕ, zero, suc, ◌+◌, ◌-◌, ◌<◌, ◌≤◌, Bool, true, false, if◌then◌else◌, List, length}
use Rattle.std.proofs.Common.{Option, None, Some, slice_get, refl, sym, ap, ◌∙◌, arith}
use Rattle.std.proofs.lemmas.Option.{none-some, same_Some, slice_get_within}
use Rattle.mapworld_calls.specs.declared.ask.Ask.{Ask}
use Rattle.mapworld_calls.specs.declared.ask.Ask.TheVariants as ask
use Rattle.mapworld_calls.specs.declared.ask.Held.TheVariants as held
use Rattle.mapworld_calls.specs.Programs.{is_drop, one_guard, opening_before, session_behind}
use Rattle.mapworld_calls.proofs.Programs.{one_guard_holds, opening_is}

-- the session of an opening is none of a later call's, or was open before it
still-open : (drops : Bool) (s : Option ℕ) (c : ℕ) → (if drops then None else s) ≡ Some c → s ≡ Some c
still-open true s c e = absurd (none-some c e)
still-open false s c e = e

before : {K V D : Type 0} (n c : ℕ) (o : Option (Ask K V D)) (s : Option ℕ) → c < n → session_behind n o s ≡ Some c
    → s ≡ Some c
before n c None s later e = e
before n c (Some (ask.Keyed k)) s later e = e
before n c (Some (ask.Walk f)) s later e = e
before n c (Some (ask.Begin b)) s later e = let same = same_Some n c e in absurd (omega (arith, later, same))
before n c (Some (ask.Held h)) s later e = still-open (is_drop h) s c e

-- behind a drop at j no session of an earlier opening is open
closed : {K V D : Type 0} (program : List (Ask K V D)) (j c : ℕ) → c < j
    → slice_get program j ≡ Some (ask.Held held.Drop) → (d n : ℕ) → n ≡ d + suc j → opening_before program n ≡ Some c
    → ⊥
closed program j c later at zero n is e =
    let next : suc j ≡ n = omega (arith, is) in
    none-some c (sym (ap (λ o. session_behind j o (opening_before program j)) at)
    ∙ (ap (opening_before program) next ∙ e))
closed program j c later at (suc d) n is e =
    let m = d + suc j in
    let next : suc m ≡ n = omega (arith, is) in
    closed program j c later at d m refl
    (before m c (slice_get program m) (opening_before program m) (omega (arith, later))
    (ap (opening_before program) next ∙ e))

pub none-at-end : {K V D : Type 0} (program : List (Ask K V D)) → one_guard false program ≡ true → (n c : ℕ)
    → length program ≤ n → opening_before program n ≡ Some c → ⊥
none-at-end program guarded n c past e =
    let opened = opening_is program n c e in
    let drop = one_guard_holds program guarded c opened.0 opened.1 in
    let j = drop.0 in
    let within : j < length program = slice_get_within program j _ drop.2 in
    closed program j c drop.1 drop.2 (n - suc j) n (omega (arith, within, past)) e
