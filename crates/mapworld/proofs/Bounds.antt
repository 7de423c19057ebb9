-- The bound on the steps of a world fits a number of 64 bits.
use Rattle.std.proofs.Common.{ℕ, ◌+◌, ◌*◌, ◌≤◌, ◌^◌, arith, mul-le-mul}

pub visits_fit : (n c s : ℕ) → n ≤ 256 → c ≤ 2 ^ 20 → s ≤ 4096 → 256 * (n + 1) * (n + 1) * (c + 1) * (s + 1) ≤ 2 ^ 61
visits_fit n c s hn hc hs =
    let n1 : n + 1 ≤ 257 = omega arith in
    let c1 : c + 1 ≤ 1048577 = omega arith in
    let s1 : s + 1 ≤ 4097 = omega arith in
    let a : 256 * (n + 1) ≤ 65792 = omega arith in
    let b : 256 * (n + 1) * (n + 1) ≤ 65792 * 257 = mul-le-mul a n1 in
    let d : 256 * (n + 1) * (n + 1) * (c + 1) ≤ 16908544 * 1048577 = mul-le-mul b c1 in
    let e : 256 * (n + 1) * (n + 1) * (c + 1) * (s + 1) ≤ 17729910341888 * 4097 = mul-le-mul d s1 in
    omega (arith, e)

pub deeds_fit : (c p : ℕ) → c ≤ 2 ^ 20 → p ≤ 2 ^ 32 → 2 * (c + 1) * (p + c + 1) ≤ 2 ^ 61
deeds_fit c p hc hp =
    let c1 : 2 * (c + 1) ≤ 2097154 = omega arith in
    let p1 : p + c + 1 ≤ 4296015873 = omega arith in
    let d : 2 * (c + 1) * (p + c + 1) ≤ 2097154 * 4296015873 = mul-le-mul c1 p1 in
    omega (arith, d)
