-- A step of a link keeps its phases: LCP and IPCP go over rows of the automaton's table, and authentication begins and ends with
-- LCP's Opened.
use Rattle.std.proofs.Common.{◌≡◌, ℕ, Bool, true, false, ◌&&◌, ◌||◌, not, List, [], ◌∷◌, refl, sym, ap, ◌∙◌}
use Rattle.std.specs.Prelude.{if◌then◌else◌}
use Rattle.std.specs.List.{list_all, list_any}
use Rattle.bng_automaton.specs.declared.action.Action.{Action}
use Rattle.bng_automaton.specs.declared.action.Action.TheVariants.{Tlu, Tld, Tls, Tlf, Irc, Zrc, Scr, Sca, Scn, Str, Sta, Scj, Ser}
use Rattle.bng_automaton.specs.declared.event.Event.{Event}
use Rattle.bng_automaton.specs.declared.event.Event.TheVariants.{Up, Down, Open, Close, ToPlus, ToMinus, RcrPlus, RcrMinus, Rca, Rcn, Rtr, Rta, Ruc, RxjPlus, RxjMinus, Rxr}
use Rattle.bng_automaton.specs.Table.{Transition, row, table}
use Rattle.bng_automaton.specs.Machine.{Machine}
use Rattle.bng_automaton.specs.Steps.{Steps}
use Rattle.bng_automaton.proofs.TableLaws.{passes}
use Rattle.bng_ppp.specs.Automaton.{Doing, acted, all_acted, Why, Follows}
use Rattle.bng_ppp.specs.IpcpAutomaton.{IpcpWhy, IpcpDoing, IpcpFollows, ipcp_acted, all_ipcp_acted}
use Rattle.bng_ppp.specs.LcpState.{is_down, is_opened}

-- Tests -----------------------------------------------------------------------------------------------------------------

agree : Bool → Bool → Bool
agree true b = b
agree false b = not b

agree_is : (a b : Bool) → agree a b ≡ true → a ≡ b
unfolding agree
agree_is true true e = refl
agree_is true false e = sym e
agree_is false true e = e
agree_is false false e = refl

pub never : (b : Bool) → (b && not b) ≡ false
never true = refl
never false = refl

pub or_false : (b : Bool) → (b || false) ≡ b
or_false true = refl
or_false false = refl

pub or_assoc : (a b c : Bool) → ((a || b) || c) ≡ (a || (b || c))
or_assoc true b c = refl
or_assoc false b c = refl

pub or_true : (a : Bool) → (a || true) ≡ true
or_true true = refl
or_true false = refl

-- The table -------------------------------------------------------------------------------------------------------------

abbrev is_tlu : Action → Bool
is_tlu Tlu = true
is_tlu Tld = false
is_tlu Tls = false
is_tlu Tlf = false
is_tlu Irc = false
is_tlu Zrc = false
is_tlu Scr = false
is_tlu Sca = false
is_tlu Scn = false
is_tlu Str = false
is_tlu Sta = false
is_tlu Scj = false
is_tlu Ser = false

abbrev pub is_up : Event → Bool
is_up Up = true
is_up Down = false
is_up Open = false
is_up Close = false
is_up ToPlus = false
is_up ToMinus = false
is_up RcrPlus = false
is_up RcrMinus = false
is_up Rca = false
is_up Rcn = false
is_up Rtr = false
is_up Rta = false
is_up Ruc = false
is_up RxjPlus = false
is_up RxjMinus = false
is_up Rxr = false

abbrev is_down_event : Event → Bool
is_down_event Up = false
is_down_event Down = true
is_down_event Open = false
is_down_event Close = false
is_down_event ToPlus = false
is_down_event ToMinus = false
is_down_event RcrPlus = false
is_down_event RcrMinus = false
is_down_event Rca = false
is_down_event Rcn = false
is_down_event Rtr = false
is_down_event Rta = false
is_down_event Ruc = false
is_down_event RxjPlus = false
is_down_event RxjMinus = false
is_down_event Rxr = false

-- Open and Up neither bring an automaton to Opened nor away from it
abbrev pub is_calm : Event → Bool
is_calm Up = true
is_calm Down = false
is_calm Open = true
is_calm Close = false
is_calm ToPlus = false
is_calm ToMinus = false
is_calm RcrPlus = false
is_calm RcrMinus = false
is_calm Rca = false
is_calm Rcn = false
is_calm Rtr = false
is_calm Rta = false
is_calm Ruc = false
is_calm RxjPlus = false
is_calm RxjMinus = false
is_calm Rxr = false

-- This-Layer-Up stands exactly where the row leads to Opened from another state
tells_up : Transition → Bool
tells_up t = agree (list_any is_tlu t.actions) (is_opened t.next && not (is_opened t.state))

keeps_opened : Transition → Bool
keeps_opened t = if is_calm t.event then agree (is_opened t.next) (is_opened t.state) else true

stays_down : Transition → Bool
stays_down t = if is_up t.event then true else (if is_down t.state then is_down t.next else true)

goes_down : Transition → Bool
goes_down t = if is_down_event t.event then is_down t.next else true

all_tell : list_all tells_up table ≡ true
unfolding tells_up agree table
all_tell = refl

all_keep : list_all keeps_opened table ≡ true
unfolding keeps_opened agree table
all_keep = refl

all_stay : list_all stays_down table ≡ true
unfolding stays_down table
all_stay = refl

all_go : list_all goes_down table ≡ true
unfolding goes_down table
all_go = refl

module _ (old : Machine) (event : Event) (moment : ℕ) (actions : List Action) (new : Machine) (s : Steps old event moment actions new) where
  up_told : list_any is_tlu actions ≡ (is_opened new.state && not (is_opened old.state))
  unfolding tells_up
  up_told = agree_is _ _ (passes tells_up table (row old.state event actions new.state) all_tell s.transition)

  opened_kept : is_calm event ≡ true → is_opened new.state ≡ is_opened old.state
  unfolding keeps_opened
  opened_kept calm = agree_is _ _ (by_test (is_calm event) _ calm (passes keeps_opened table (row old.state event actions new.state) all_keep s.transition))
    where
      by_test : (b c : Bool) → b ≡ true → (if b then c else true) ≡ true → c ≡ true
      by_test true c e h = h
      by_test false c e h = absurd cc

  down_stays : is_up event ≡ false → is_down old.state ≡ true → is_down new.state ≡ true
  unfolding stays_down
  down_stays other down = by_test (is_up event) (is_down old.state) _ other down (passes stays_down table (row old.state event actions new.state) all_stay s.transition)
    where
      by_test : (a b c : Bool) → a ≡ false → b ≡ true → (if a then true else (if b then c else true)) ≡ true → c ≡ true
      by_test true b c e f h = absurd cc
      by_test false true c e f h = h
      by_test false false c e f h = absurd cc

  down_goes : is_down_event event ≡ true → is_down new.state ≡ true
  unfolding goes_down
  down_goes e = by_test (is_down_event event) _ e (passes goes_down table (row old.state event actions new.state) all_go s.transition)
    where
      by_test : (b c : Bool) → b ≡ true → (if b then c else true) ≡ true → c ≡ true
      by_test true c e h = h
      by_test false c e h = absurd cc

-- LCP -------------------------------------------------------------------------------------------------------------------

module _ (c : Why) (echo now : ℕ) where
  one_lcp : (d : Doing) (a : Action) → (acted c echo now d a).link.lcp ≡ d.link.lcp
  one_lcp d Tlu = refl
  one_lcp d Tld = refl
  one_lcp d Tls = refl
  one_lcp d Tlf = refl
  one_lcp d Irc = refl
  one_lcp d Zrc = refl
  one_lcp d Scr = refl
  one_lcp d Sca = refl
  one_lcp d Scn = refl
  one_lcp d Str = refl
  one_lcp d Sta = refl
  one_lcp d Scj = refl
  one_lcp d Ser = refl

  each_lcp : (d : Doing) (actions : List Action) → (all_acted c echo now d actions).link.lcp ≡ d.link.lcp
  each_lcp d [] = refl
  each_lcp d (a ∷ actions) = each_lcp (acted c echo now d a) actions ∙ one_lcp d a

  one_told : (d : Doing) (a : Action) → (acted c echo now d a).said.opened ≡ (d.said.opened || is_tlu a)
  one_told d Tlu = sym (or_true d.said.opened)
  one_told d Tld = sym (or_false d.said.opened)
  one_told d Tls = sym (or_false d.said.opened)
  one_told d Tlf = sym (or_false d.said.opened)
  one_told d Irc = sym (or_false d.said.opened)
  one_told d Zrc = sym (or_false d.said.opened)
  one_told d Scr = sym (or_false d.said.opened)
  one_told d Sca = sym (or_false d.said.opened)
  one_told d Scn = sym (or_false d.said.opened)
  one_told d Str = sym (or_false d.said.opened)
  one_told d Sta = sym (or_false d.said.opened)
  one_told d Scj = sym (or_false d.said.opened)
  one_told d Ser = sym (or_false d.said.opened)

  each_told : (d : Doing) (actions : List Action) → (all_acted c echo now d actions).said.opened ≡ (d.said.opened || list_any is_tlu actions)
  each_told d [] = sym (or_false d.said.opened)
  each_told d (a ∷ actions) =
      each_told (acted c echo now d a) actions ∙ ap (λ (b : Bool). b || list_any is_tlu actions) (one_told d a) ∙ or_assoc d.said.opened (is_tlu a) (list_any is_tlu actions)

-- LCP comes to Opened
abbrev pub comes : Bool → Bool → Bool
comes was is = is && not was

abbrev open_in : Doing → Bool
open_in d = is_opened d.link.lcp.state

module _ (event : Event) (c : Why) (echo now : ℕ) (before after : Doing) (f : Follows event c echo now before after) where
  lcp_after : after.link.lcp ≡ f.machine
  lcp_after = ap (λ (d : Doing). d.link.lcp) f.done ∙ each_lcp c echo now (record before { link = record before.link { lcp = f.machine } }) f.actions

  pub follows_open : after.said.opened ≡ (before.said.opened || comes (open_in before) (open_in after))
  follows_open =
      ap (λ (d : Doing). d.said.opened) f.done
      ∙ each_told c echo now (record before { link = record before.link { lcp = f.machine } }) f.actions
      ∙ ap (λ (b : Bool). before.said.opened || b) (up_told before.link.lcp event now f.actions f.machine f.steps)
      ∙ ap (λ (m : Machine). before.said.opened || comes (open_in before) (is_opened m.state)) (sym lcp_after)

  pub follows_calm : is_calm event ≡ true → open_in after ≡ open_in before
  follows_calm calm = ap (λ (m : Machine). is_opened m.state) lcp_after ∙ opened_kept before.link.lcp event now f.actions f.machine f.steps calm

-- IPCP ------------------------------------------------------------------------------------------------------------------

module _ (c : IpcpWhy) where
  one_machine : (d : IpcpDoing) (a : Action) → (ipcp_acted c d a).ipcp.machine ≡ d.ipcp.machine
  one_machine d Tlu = refl
  one_machine d Tld = refl
  one_machine d Tls = refl
  one_machine d Tlf = refl
  one_machine d Irc = refl
  one_machine d Zrc = refl
  one_machine d Scr = refl
  one_machine d Sca = refl
  one_machine d Scn = refl
  one_machine d Str = refl
  one_machine d Sta = refl
  one_machine d Scj = refl
  one_machine d Ser = refl

  each_machine : (d : IpcpDoing) (actions : List Action) → (all_ipcp_acted c d actions).ipcp.machine ≡ d.ipcp.machine
  each_machine d [] = refl
  each_machine d (a ∷ actions) = each_machine (ipcp_acted c d a) actions ∙ one_machine d a

module _ (event : Event) (c : IpcpWhy) (now : ℕ) (before after : IpcpDoing) (f : IpcpFollows event c now before after) where
  machine_after : after.ipcp.machine ≡ f.machine
  machine_after = ap (λ (d : IpcpDoing). d.ipcp.machine) f.done ∙ each_machine c (record before { ipcp = record before.ipcp { machine = f.machine } }) f.actions

  state_after : is_down f.machine.state ≡ true → is_down after.ipcp.machine.state ≡ true
  state_after h = ap (λ (m : Machine). is_down m.state) machine_after ∙ h

  pub ipcp_stays_down : is_up event ≡ false → is_down before.ipcp.machine.state ≡ true → is_down after.ipcp.machine.state ≡ true
  ipcp_stays_down other down = state_after (down_stays before.ipcp.machine event now f.actions f.machine f.steps other down)

  pub ipcp_goes_down : is_down_event event ≡ true → is_down after.ipcp.machine.state ≡ true
  ipcp_goes_down e = state_after (down_goes before.ipcp.machine event now f.actions f.machine f.steps e)
