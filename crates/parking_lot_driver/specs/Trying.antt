-- What the exchanges of tries do to rights, and where the core of a try is.
use Rattle.std.specs.Prelude.{◌≡◌, ◌≢◌, ◌⊎◌, ◌+◌, ◌-◌, ◌/◌, ◌%◌, ◌^◌, ◌==◌, ℕ, Bool, true, false}
use Rattle.std.specs.Prelude.{if◌then◌else◌, nat_lt, not, ◌&&◌, ◌||◌}
use mathlib.Core.Path.{refl, sym, ◌∙◌, ap, subst}
use mathlib.Core.Logic.{inl, inr}
use native.Mathlib.Omega.{arith}
use Rattle.lock_word.specs.Rights.{Rights, nothing, a_reader, an_upgradable, an_exclusive, same}
use Rattle.lock_word.specs.Sharing.{MayFind, Covers, then_held}
use Rattle.parking_lot_driver.specs.Ends.{rw_asks, rw_told}
use Rattle.parking_lot_driver.specs.Runs.{is_on_the_word}
use Rattle.parking_lot_protocol.specs.RwTable as rw
use Rattle.parking_lot_protocol.specs.declared.act.Act.{Act}
use Rattle.parking_lot_protocol.specs.declared.act.Act.TheVariants as act
use Rattle.parking_lot_protocol.specs.declared.act.ActResult.{ActResult}
use Rattle.parking_lot_protocol.specs.declared.act.ActResult.TheVariants.{Exchanged, Word}
use Rattle.parking_lot_protocol.specs.declared.act.CoreAnswer.TheVariants.{Owned, Refused}
use Rattle.parking_lot_protocol.specs.declared.rw_core.RwCore.{RwCore}
use Rattle.parking_lot_protocol.specs.declared.rw_phase.LockMode.{LockMode}
use Rattle.parking_lot_protocol.specs.declared.rw_phase.LockMode.TheVariants as want
use Rattle.parking_lot_protocol.specs.declared.rw_phase.RwPhase.{RwPhase}
use Rattle.parking_lot_protocol.specs.declared.rw_phase.RwPhase.TheVariants as at
use Rattle.parking_lot_protocol_rw.specs.UpgradeTable.{is_open, is_alone, upgrade_asks, upgrade_told}
use Rattle.parking_lot_protocol_rw.specs.declared.upgrade_core.UpgradeCore.{UpgradeCore}
use Rattle.parking_lot_protocol_rw.specs.declared.upgrade_phase.Hold.TheVariants.{Upgradable}
use Rattle.parking_lot_protocol_rw.specs.declared.upgrade_phase.UpgradePhase.{UpgradePhase}
use Rattle.parking_lot_protocol_rw.specs.declared.upgrade_phase.UpgradePhase.TheVariants as call

-- THE EXCHANGES

-- An exchange by which these rights become those.
abbrev pub Turns : Rights → Rights → ℕ → ℕ → Type 0
Turns had gained from to = MayFind had from → Covers had from to × (then_held had from to ≡ gained)

-- a reader more
reads_at : (word to : ℕ) (room : Bool) (written readers recursive : Bool) → room ≡ nat_lt (word / 16) (2 ^ 60 - 1)
    → written ≡ (word / 8 % 2 == 1) → readers ≡ nat_lt 0 (word / 16)
    → (room && (not written || (recursive && readers))) ≡ true → to ≡ (word + 16) % 2 ^ 64
    → Turns nothing a_reader word to
reads_at word to room written readers recursive r w s is t find = (
  grind arith,
  same _ a_reader (grind arith) (grind arith) (grind arith) (grind arith),
)

pub reads : (recursive : Bool) (word : ℕ) → rw.is_tried (want.Shared recursive) word ≡ true
    → Turns nothing a_reader word ((word + 16) % 2 ^ 64)
reads recursive word is = reads_at word _ _ _ _ recursive refl refl refl is refl

-- a writer where there is nobody
pub writes : (word : ℕ) → rw.is_tried want.Exclusive word ≡ true
    → Turns nothing an_exclusive word ((word + 8) % 2 ^ 64)
writes word is find = (grind arith, same _ an_exclusive (grind arith) (grind arith) (grind arith) (grind arith))

-- an upgradable owner
pub owns : (word : ℕ) → is_open word ≡ true → Turns nothing an_upgradable word ((word + 20) % 2 ^ 64)
owns word is find = (grind arith, same _ an_upgradable (grind arith) (grind arith) (grind arith) (grind arith))

-- a writer in place of an upgradable owner that is alone
pub upgrades : (word : ℕ) → is_alone word ≡ true
    → Turns an_upgradable an_exclusive word ((word + (2 ^ 64 - 12)) % 2 ^ 64)
upgrades word is find = (grind arith, same _ an_exclusive (grind arith) (grind arith) (grind arith) (grind arith))

-- THE CORES

-- How a try goes: it looks at the word, asks for an exchange where it is open, so many times, and else is refused.
pub record Trial (C : Type 0) (asks : C → Act) (told : C → ActResult → C) : Type 0 where
  pub loads : C
  pub admits : ℕ → ℕ → C
  pub refuses : C
  pub is_open : ℕ → Bool
  pub to : ℕ → ℕ
  pub asks_load : asks loads ≡ act.Load
  pub asks_exchange : (word left : ℕ) → asks (admits word left) ≡ act.Exchange word (to word)
  pub asks_nothing : asks refuses ≡ act.Done Refused
  pub looks : (word : ℕ) → told loads (Word word) ≡ (if is_open word then admits word 63 else refuses)
  pub loses : (tried left word : ℕ) → told (admits tried left) (Word word)
      ≡ (if nat_lt 0 left then (if is_open word then admits word (left - 1) else refuses) else refuses)
  pub wins : (word left : ℕ) → asks (told (admits word left) Exchanged) ≡ act.Done Owned

abbrev is_exchange : Act → Bool
is_exchange (act.Exchange from to) = true
is_exchange a = false

abbrev is_refusal : Act → Bool
is_refusal (act.Done Refused) = true
is_refusal a = false

abbrev from_of : Act → ℕ
from_of (act.Exchange from to) = from
from_of a = 0

abbrev to_of : Act → ℕ
to_of (act.Exchange from to) = to
to_of a = 0

abbrev Is : Bool → Type 0
Is true = Unit {0}
Is false = ⊥

no : {b : Bool} → b ≡ true → b ≡ false → ⊥
no t f = subst Is (sym t ∙ f) tt

module _ {C : Type 0} {asks : C → Act} {told : C → ActResult → C} (t : Trial C asks told) where
  -- a core of such a try that is under way, or was refused
  abbrev pub IsTrying : C → Type 0
  IsTrying core = (core ≡ t.loads)
      ⊎ (((word : ℕ) × ((left : ℕ) × ((core ≡ t.admits word left) × (t.is_open word ≡ true)))) ⊎ (core ≡ t.refuses))

  tries_on : (left word : ℕ) (free : Bool) → t.is_open word ≡ free
      → IsTrying (if free then t.admits word left else t.refuses)
  tries_on left word true is = inr (inl (word, (left, (refl, is))))
  tries_on left word false is = inr (inr refl)

  retries_on : (left word : ℕ) (more : Bool) → IsTrying
      (if more then (if t.is_open word then t.admits word (left - 1) else t.refuses) else t.refuses)
  retries_on left word true = tries_on (left - 1) word (t.is_open word) refl
  retries_on left word false = inr (inr refl)

  -- one that has made an act on the word, and was told of a word, is one still
  pub goes_on : (core : C) (word : ℕ) → IsTrying core → is_on_the_word (asks core) ≡ true
      → IsTrying (told core (Word word))
  goes_on core word (inl is) on = subst IsTrying (sym (ap (λ c. told c (Word word)) is ∙ t.looks word))
      (tries_on 63 word (t.is_open word) refl)
  goes_on core word (inr (inl (tried, (left, (is, free))))) on =
      subst IsTrying (sym (ap (λ c. told c (Word word)) is ∙ t.loses tried left word))
      (retries_on left word (nat_lt 0 left))
  goes_on core word (inr (inr is)) on =
      absurd (no on (ap (λ c. is_on_the_word (asks c)) is ∙ ap is_on_the_word t.asks_nothing))

  -- an exchange that it asks for is made where the word is open, and admits it
  pub exchanges : (may : ℕ → ℕ → Type 0) → ((word : ℕ) → t.is_open word ≡ true → may word (t.to word))
      → (core : C) (from to : ℕ) → IsTrying core → asks core ≡ act.Exchange from to
      → may from to × (asks (told core Exchanged) ≡ act.Done Owned)
  exchanges may opens core from to (inl is) ask =
      absurd (no (ap is_exchange ask) (ap (λ c. is_exchange (asks c)) is ∙ ap is_exchange t.asks_load))
  exchanges may opens core from to (inr (inl (word, (left, (is, free))))) ask =
      let same : act.Exchange word (t.to word) ≡ act.Exchange from to =
      sym (t.asks_exchange word left) ∙ sym (ap asks is) ∙ ask in (
        subst (λ f. may f to) (ap from_of same) (subst (λ x. may word x) (ap to_of same) (opens word free)),
        ap (λ c. asks (told c Exchanged)) is ∙ t.wins word left,
      )
  exchanges may opens core from to (inr (inr is)) ask =
      absurd (no (ap is_exchange ask) (ap (λ c. is_exchange (asks c)) is ∙ ap is_exchange t.asks_nothing))

  -- one that asks for no act on the word was refused
  pub is_over : (core : C) → IsTrying core → asks core ≢ act.Load → ((from to : ℕ) → asks core ≢ act.Exchange from to)
      → (is_on_the_word (asks core) ≡ false) × (asks core ≢ act.Done Owned)
  is_over core (inl is) load exchange = absurd (load (ap asks is ∙ t.asks_load))
  is_over core (inr (inl (word, (left, (is, free))))) load exchange =
      absurd (exchange _ _ (ap asks is ∙ t.asks_exchange word left))
  is_over core (inr (inr is)) load exchange = (
    ap (λ c. is_on_the_word (asks c)) is ∙ ap is_on_the_word t.asks_nothing,
    λ owned. no (ap (λ c. is_refusal (asks c)) is ∙ ap is_refusal t.asks_nothing) (ap is_refusal owned),
  )

-- THE KINDS OF TRIES

pub branch : {P C : Type 0} (f : P → C) (b : Bool) (x y : P) → f (if b then x else y) ≡ (if b then f x else f y)
branch f true x y = refl
branch f false x y = refl

pub branches : {P C : Type 0} (f : P → C) (a b : Bool) (x y : P)
    → f (if a then (if b then x else y) else y) ≡ (if a then (if b then f x else f y) else f y)
branches f true b x y = branch f b x y
branches f false b x y = refl

abbrev pub rw_at : RwPhase → RwCore
rw_at phase = record { phase = phase }

abbrev pub up_at : UpgradePhase → UpgradeCore
up_at phase = record { phase = phase }

pub gains : (mode : LockMode) (word left : ℕ)
    → rw_asks (rw_told (rw_at (at.TryAdmits mode word left)) Exchanged) ≡ act.Done Owned
gains (want.Shared recursive) word left = refl
gains want.Exclusive word left = refl

abbrev pub sharing : (mode : LockMode) → Trial RwCore rw_asks rw_told
sharing mode = record {
  loads = rw_at (at.TryLoads mode);
  admits = λ word left. rw_at (at.TryAdmits mode word left);
  refuses = rw_at (at.Refuses mode);
  is_open = rw.is_tried mode;
  to = λ word. (word + rw.share_of mode) % 2 ^ 64;
  asks_load = refl;
  asks_exchange = λ word left. refl;
  asks_nothing = refl;
  looks = λ word. branch rw_at (rw.is_tried mode word) (at.TryAdmits mode word 63) (at.Refuses mode);
  loses = λ tried left word. branches rw_at (nat_lt 0 left) (rw.is_tried mode word)
      (at.TryAdmits mode word (left - 1)) (at.Refuses mode);
  wins = gains mode;
}

abbrev pub owning : Trial UpgradeCore upgrade_asks upgrade_told
owning = record {
  loads = up_at call.TryLoads;
  admits = λ word left. up_at (call.TryAdmits word left);
  refuses = up_at call.Refuses;
  is_open = is_open;
  to = λ word. (word + 20) % 2 ^ 64;
  asks_load = refl;
  asks_exchange = λ word left. refl;
  asks_nothing = refl;
  looks = λ word. branch up_at (is_open word) (call.TryAdmits word 63) call.Refuses;
  loses = λ tried left word. branches up_at (nat_lt 0 left) (is_open word) (call.TryAdmits word (left - 1))
      call.Refuses;
  wins = λ word left. refl;
}

abbrev pub upgrading : Trial UpgradeCore upgrade_asks upgrade_told
upgrading = record {
  loads = up_at call.TryUpgradeLoads;
  admits = λ word left. up_at (call.TryUpgrades word left);
  refuses = up_at (call.Ends Upgradable Refused);
  is_open = is_alone;
  to = λ word. (word + (2 ^ 64 - 12)) % 2 ^ 64;
  asks_load = refl;
  asks_exchange = λ word left. refl;
  asks_nothing = refl;
  looks = λ word. branch up_at (is_alone word) (call.TryUpgrades word 63) (call.Ends Upgradable Refused);
  loses = λ tried left word. branches up_at (nat_lt 0 left) (is_alone word) (call.TryUpgrades word (left - 1))
      (call.Ends Upgradable Refused);
  wins = λ word left. refl;
}
