-- Why settings that are written for a configuration are taken for it, and which word of a record is which.
use Prim.Native.Nat.{ℕ, zero, suc, ◌+◌, ◌%◌, ◌<◌, ◌≤◌}
use mathlib.Core.Path.{◌≡◌, refl, ◌∙◌, ap}
use mathlib.Core.Bool.{true}
use mathlib.Core.List.{List, [], ◌∷◌, ◌++◌}
use native.Mathlib.Nat.{mod-eq_of_lt}
use native.Mathlib.Omega.{arith}
use borrow.Author.Tests.{le-leb}
use lib.ListN.{length, get_or, replicate, get_or-append}
use lib.Seq.{get_or-append-add}
use Rattle.wire.proofs.TabLaws.{tab-same, tab-list}
use Rattle.reassembly.specs.declared.config.Config.{Config}
use Rattle.words.specs.Channel.{unit_words, field_words}
use Rattle.state.specs.Start.{start_from}
use Rattle.calls.specs.Bounds.{are_within}
use Rattle.calls.specs.Record.{unit_record}
use Rattle.calls.specs.Settings.{most16, most64, settings_most, SizedConfig, ids_in, config_in}
use Rattle.calls.proofs.SettingsLaws.{start-by}
use Rattle.calls.specs.Claims.{settings_of, SettingsClaim, RecordClaim}

-- n words at most m each, and words behind them
within_all : (n m : ℕ) (xs ys ms : List ℕ) → length xs ≡ n → ((k : ℕ) → k < n → get_or xs k 0 ≤ m)
    → are_within (xs ++ ys) (replicate n m ++ ms) ≡ are_within ys ms
unfolding are_within
within_all zero m [] ys ms l h = refl
within_all zero m (x ∷ xs) ys ms l h = absurd (omega arith)
within_all (suc n) m [] ys ms l h = absurd (omega arith)
within_all (suc n) m (x ∷ xs) ys ms l h =
    rw (le-leb x m (h 0 (omega arith))) (within_all n m xs ys ms (omega arith) (λ k g. h (suc k) (omega arith)))

ids-read : (c : Config) → SizedConfig c → ids_in (settings_of c) ≡ c.watch.ids
unfolding ids_in
ids-read c s =
    let xs = c.stream ∷ c.cid ∷ c.watch.n ∷ c.rules.limit ∷ [] in
    let ids = c.watch.ids in
    tab-same (λ k. get_or (settings_of c) (4 + k) 0 % 65536) (λ k. get_or ids k 0) 16
    (λ k h. rw (get_or-append-add xs (ids ++ replicate 12 0) k 0, get_or-append ids (replicate 12 0) 0 k (omega (arith, s.count)))
    (mod-eq_of_lt (s.ids k h)))
    ∙ tab-list ids 16 0 s.count

read : (c : Config) → SizedConfig c → config_in (settings_of c) ≡ c
unfolding config_in
read c s = rw (mod-eq_of_lt s.stream, mod-eq_of_lt s.cid, ids-read c s)

fit : (c : Config) → SizedConfig c → c.watch.n ≤ most64 → c.rules.limit ≤ most64
    → are_within (settings_of c) settings_most ≡ true
unfolding are_within settings_most
fit c s n r =
    let a = s.stream in
    let b = s.cid in
    rw (
      le-leb c.stream most16 (omega arith),
      le-leb c.cid most16 (omega arith),
      le-leb _ _ n,
      le-leb _ _ r,
    )
    (within_all 16 most16 c.watch.ids (replicate 12 0) (replicate 12 0) s.count (λ k h. let g = s.ids k h in omega arith))

pub settings_claim : SettingsClaim
settings_claim st c s n r = start-by st (settings_of c) (fit c s n r) ∙ ap (start_from st) (read c s)

pub record_claim : RecordClaim
unfolding unit_record unit_words field_words
record_claim g = refl
