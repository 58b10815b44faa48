-- The Interims of a settlement, where the shards are seen as the engine left them.
use Rattle.std.proofs.Common.{◌≡◌, ℕ, List, [], ◌∷◌, ◌++◌, map, refl, ap, subst, ◌∙◌}
use Rattle.std.specs.Prelude.{filter, filter_map}
use Rattle.std.specs.List.{AllZip}
use Rattle.bng_engine.specs.Lists.{Zip3}
use Rattle.bng_engine.specs.Views.{Row}
use Rattle.bng_steps.specs.Interims.{Reports, owed, owes, row_in}
use Rattle.bng_steps.specs.Protocol.{ShardState}
use Rattle.bng_sessions.specs.Listed.{values}
use Rattle.bng_desk.specs.Interims.{FormsInterims, TakesInterims, last_after, owed_by}
use Rattle.bng_desk.specs.Round.{terms_in}
use Rattle.bng_desk.specs.Taking.{Accounts, IsLeftBy, ReportsAll, Shown, Sight, states_of}
use Rattle.bng_desk.proofs.Dealing.{Seens}
use Rattle.bng_desk.proofs.Readying.{Shards}

owed_as : (moment : ℕ) (last : List ℕ) (w : Shown) (v : Sight) → IsLeftBy w v → owed w last moment ≡ owed v last moment
owed_as moment last w v l =
    ap (λ (s : ShardState). filter_map (row_in w.rows) (filter (owes last moment) (values s.slots.sessions))) l.state
    ∙ ap (λ (rs : List Row). filter_map (row_in rs) (filter (owes last moment) (values v.state.slots.sessions))) l.rows

owed_left : (moment : ℕ) (ws : Shards) (xs : Seens) (rs : List Reports) → AllZip IsLeftBy ws xs → owed_by moment ws rs ≡ owed_by moment xs rs
owed_left moment [] [] rs l = refl
owed_left moment [] (x ∷ xs) rs l = absurd l
owed_left moment (w ∷ ws) [] rs l = absurd l
owed_left moment (w ∷ ws) (x ∷ xs) [] l = refl
owed_left moment (w ∷ ws) (x ∷ xs) (r ∷ rs) l =
    ap (λ (ks : List Row). ks ++ owed_by moment ws rs) (owed_as moment r.last w x l.0) ∙ ap (λ (ks : List Row). owed x r.last moment ++ ks) (owed_left moment ws xs rs l.1)

states_left : (ws : Shards) (xs : Seens) → AllZip IsLeftBy ws xs → states_of ws ≡ map (λ (x : Sight). x.state) xs
states_left [] [] l = refl
states_left [] (x ∷ xs) l = absurd l
states_left (w ∷ ws) [] l = absurd l
states_left (w ∷ ws) (x ∷ xs) l = ap (λ (s : ShardState). s ∷ states_of ws) l.0.state ∙ ap (λ (ss : List ShardState). x.state ∷ ss) (states_left ws xs l.1)

taken_left : (moment : ℕ) (ws : Shards) (xs : Seens) (rs rs' : List Reports) → AllZip IsLeftBy ws xs → Zip3 (TakesInterims moment) ws rs rs' → Zip3 (TakesInterims moment) xs rs rs'
taken_left moment [] [] [] [] l h = tt
taken_left moment [] [] rs rs' l h = absurd h
taken_left moment [] (x ∷ xs) rs rs' l h = absurd l
taken_left moment (w ∷ ws) [] rs rs' l h = absurd l
taken_left moment (w ∷ ws) (x ∷ xs) (r ∷ rs) (r' ∷ rs') l h =
    (h.0 ∙ ap (λ (ks : List Row). last_after moment ks r.last) (owed_as moment r.last w x l.0), taken_left moment ws xs rs rs' l.1 h.1)
taken_left moment (w ∷ ws) (x ∷ xs) rs rs' l h = absurd h

-- the Interims of the shards are those of the shards as the engine left them
pub reports_left : (moment wall : ℕ) (ws : Shards) (xs : Seens) (a a' : Accounts) → AllZip IsLeftBy ws xs → ReportsAll moment wall ws a a' → ReportsAll moment wall xs a a'
reports_left moment wall ws xs a a' l r = record {
  formed = r.formed;
  forms = subst (λ (ss : List ShardState). FormsInterims (terms_in ss) moment wall a.billing (owed_by moment xs a.reports) r.formed a'.billing) (states_left ws xs l)
      (subst (λ (ks : List Row). FormsInterims (terms_in (states_of ws)) moment wall a.billing ks r.formed a'.billing) (owed_left moment ws xs a.reports l) r.forms);
  taken = taken_left moment ws xs a.reports a'.reports l r.taken;
  lines_are = r.lines_are;
  stopped_is = r.stopped_is;
}
