-- The binds of the access ports, one after the other, and of the roles after them.
use Rattle.std.proofs.Common.{◌≡◌, ℕ, zero, suc, ◌+◌, ◌-◌, ◌<◌, ◌≤◌, List, [], ◌∷◌, ◌++◌, Option, Some, None, IsSome, length, take, get_or, refl, sym, ap, subst, ◌∙◌, append-nil, append_assoc, arith}
use Rattle.std.proofs.lemmas.List.{length-append, take-append-le, take_all, take_at}
use Rattle.bng_base.specs.declared.address.Peer.{Peer}
use Rattle.bng_base.specs.declared.outside.Bind.{Bind}
use Rattle.bng_base.specs.declared.outside.ClockAnswer.TheVariants.{Now, Wall}
use Rattle.bng_base.specs.declared.outside.Role.{Role}
use Rattle.bng_base.specs.declared.outside.Role.TheVariants.{Access, Auth, Acct, Core, Control, Tunnel, Coa}
use Rattle.bng_base.specs.declared.settings.AccessPort.{AccessPort}
use Rattle.bng_base.specs.Causes.{Rose}
use Rattle.bng_base.specs.Told.{PlantTold, ClockTold, Grows, GrowsIfTold}
use Rattle.bng_base.proofs.ToldLaws.{grows_more, grows_none, grows_if_told_more}
use Rattle.bng_config.specs.declared.config.Config.{Config}
use Rattle.bng_plant.specs.declared.answers.Bound.{Bound}
use Rattle.bng_plant.specs.declared.answers.Bound.TheVariants.{Ok, Failed}
use Rattle.bng_plant.specs.Calls.{binds}
use Rattle.bng_gate.specs.Run.{port_binds, end_binds, coa_local, tunnel_binds, coa_binds, binds_of, binds_before_coa, binds_most, BindsPorts, FailsAtPort, BindsEnd, FailsAtEnd, Binds, FailsToBind, FailsToBindPort, FailsToBindTunnel, FailsToBindCoa, IsBound}

same_number : (m n : ℕ) (port : AccessPort) (bs : List Bind) → m ≡ n → record { role = Access m; local = port.local } ∷ bs ≡ record { role = Access n; local = port.local } ∷ bs
same_number m n port bs e = let make : ℕ → List Bind = λ k. record { role = Access k; local = port.local } ∷ bs in ap make e

-- one port more
pub binds_more : (n : ℕ) (ports : List AccessPort) (k : ℕ) (d : AccessPort) → k < length ports
    → take (suc k) (port_binds n ports) ≡ take k (port_binds n ports) ++ record { role = Access (n + k); local = (get_or ports k d).local } ∷ []
binds_more n [] k d lt = absurd (omega arith)
binds_more n (p ∷ ps) zero d lt = same_number n (n + 0) p [] (omega arith)
binds_more n (p ∷ ps) (suc k) d lt =
    let make : List Bind → List Bind = λ bs. record { role = Access n; local = p.local } ∷ bs in
    ap make (binds_more (n + 1) ps k d (omega arith) ∙ ap (λ (bs : List Bind). take k (port_binds (n + 1) ps) ++ bs) (same_number (n + 1 + k) (n + suc k) (get_or ps k d) [] (omega arith)))

pub port_more : (ports : List AccessPort) (k : ℕ) (d : AccessPort) (p₀ p₁ p₂ : PlantTold) → k < length ports → BindsPorts k ports p₀ p₁
    → Grows p₁.bound p₂.bound (record { role = Access (k + 1); local = (get_or ports k d).local } ∷ []) → p₂.heard ≡ p₁.heard → p₂.taken ≡ p₁.taken → p₂.sent ≡ p₁.sent → p₁.faults ≤ p₂.faults → BindsPorts (k + 1) ports p₀ p₂
port_more ports k d p₀ p₁ p₂ lt so_far bound heard taken sent later =
    let up : suc k ≡ k + 1 = omega arith in
    let list : take k (port_binds 1 ports) ++ record { role = Access (k + 1); local = (get_or ports k d).local } ∷ [] ≡ take (k + 1) (port_binds 1 ports) =
    ap (λ (bs : List Bind). take k (port_binds 1 ports) ++ bs) (same_number (k + 1) (1 + k) (get_or ports k d) [] (omega arith))
    ∙ sym (binds_more 1 ports k d lt)
    ∙ ap (λ (n : ℕ). take n (port_binds 1 ports)) up in
    record {
      bound = subst (λ (bs : List Bind). Grows p₀.bound p₂.bound bs) list (grows_more p₀.bound p₁.bound p₂.bound (take k (port_binds 1 ports)) (record { role = Access (k + 1); local = (get_or ports k d).local } ∷ []) so_far.bound bound);
      heard = heard ∙ so_far.heard;
      taken = taken ∙ so_far.taken;
      sent = sent ∙ so_far.sent;
      later = omega (arith, so_far.later, later);
    }

pub port_binds_length : (n : ℕ) (ports : List AccessPort) → length (port_binds n ports) ≡ length ports
port_binds_length n [] = refl
port_binds_length n (p ∷ ps) = ap suc (port_binds_length (n + 1) ps)

abbrev auth_bind : Config → Bind
auth_bind config = record { role = Auth; local = config.auth_local }

abbrev acct_bind : Config → Bind
acct_bind config = record { role = Acct; local = config.acct_local }

-- those of the ends that the configuration may lack
abbrev end_binds_of : Config → List Bind
end_binds_of config = tunnel_binds config ++ coa_binds config

abbrev server_binds : Config → List Bind
server_binds config = auth_bind config ∷ acct_bind config ∷ end_binds_of config

-- the first of the ports' binds, which those after them do not touch
ports_front : (config : Config) (k : ℕ) → k ≤ length config.access → take k (port_binds 1 config.access ++ server_binds config) ≡ take k (port_binds 1 config.access)
ports_front config k few = take-append-le k (port_binds 1 config.access) (server_binds config) (omega (arith, few, port_binds_length 1 config.access))

-- the ports come after Control and the core
pub ports_after : (config : Config) (k n : ℕ) (p₀ p₁ p₂ : PlantTold) → n ≡ 2 + k → k ≤ length config.access → Binds config 2 p₀ p₁ → BindsPorts k config.access p₁ p₂ → Binds config n p₀ p₂
ports_after config k n p₀ p₁ p₂ e few first then =
    let up : suc (suc k) ≡ n = omega (arith, e) in
    let front : take 2 (binds_of config) ++ take k (port_binds 1 config.access) ≡ take (suc (suc k)) (binds_of config) =
    ap (λ (bs : List Bind). take 2 (binds_of config) ++ bs) (sym (ports_front config k few)) in
    record {
      bound = subst (λ (m : ℕ). Grows p₀.bound p₂.bound (take m (binds_of config))) up (subst (λ (bs : List Bind). Grows p₀.bound p₂.bound bs) front
          (grows_more p₀.bound p₁.bound p₂.bound (take 2 (binds_of config)) (take k (port_binds 1 config.access)) first.bound then.bound));
      heard = then.heard ∙ first.heard;
      taken = then.taken ∙ first.taken;
      sent = then.sent ∙ first.sent;
      later = omega (arith, first.later, then.later);
    }

rose_after : (a b c : ℕ) → a ≤ b → Rose b c → Rose a c
rose_after a b c le rose = omega arith

pub fails_after : (config : Config) (number : ℕ) (p₀ p₁ p₂ : PlantTold) → Binds config 2 p₀ p₁ → FailsAtPort number config.access p₁ p₂ → FailsToBindPort config number p₀ p₂
fails_after config number p₀ p₁ p₂ first f = record {
  low = f.low;
  high = f.high;
  fails = record {
    before = ports_after config (number - 1) (number + 1) p₀ p₁ p₂ (omega (arith, f.low)) (omega (arith, f.high)) first f.before;
    rose = rose_after p₀.faults p₁.faults p₂.faults first.later f.rose;
  };
}

-- Auth and Acct come after them, and then the ends for tunnels and for changes
abbrev data_binds : Config → List Bind
data_binds config = record { role = Control; local = config.control_local } ∷ record { role = Core; local = config.core_local } ∷ port_binds 1 config.access

data_count : (config : Config) → length (data_binds config) ≡ 2 + length config.access
data_count config =
    let both : length (data_binds config) ≡ suc (suc (length (port_binds 1 config.access))) = refl in
    omega (arith, both, port_binds_length 1 config.access)

one_more : (bs : List Bind) (a b : Bind) (rest : List Bind) → take (length bs) (bs ++ a ∷ b ∷ rest) ++ a ∷ [] ≡ take (suc (length bs)) (bs ++ a ∷ b ∷ rest)
one_more [] a b rest = refl
one_more (x ∷ bs) a b rest = ap (λ (ys : List Bind). x ∷ ys) (one_more bs a b rest)

two_more : (bs : List Bind) (a b : Bind) (rest : List Bind) → take (suc (length bs)) (bs ++ a ∷ b ∷ rest) ++ b ∷ [] ≡ take (suc (suc (length bs))) (bs ++ a ∷ b ∷ rest)
two_more [] a b rest = refl
two_more (x ∷ bs) a b rest = ap (λ (ys : List Bind). x ∷ ys) (two_more bs a b rest)

with_auth : (config : Config) → take (2 + length config.access) (binds_of config) ++ auth_bind config ∷ [] ≡ take (3 + length config.access) (binds_of config)
with_auth config =
    let three : suc (length (data_binds config)) ≡ 3 + length config.access = omega (arith, data_count config) in
    ap (λ (n : ℕ). take n (binds_of config) ++ auth_bind config ∷ []) (sym (data_count config))
    ∙ one_more (data_binds config) (auth_bind config) (acct_bind config) (end_binds_of config)
    ∙ ap (λ (n : ℕ). take n (binds_of config)) three

with_acct : (config : Config) → take (3 + length config.access) (binds_of config) ++ acct_bind config ∷ [] ≡ take (4 + length config.access) (binds_of config)
with_acct config =
    let three : 3 + length config.access ≡ suc (length (data_binds config)) = omega (arith, data_count config) in
    let four : suc (suc (length (data_binds config))) ≡ 4 + length config.access = omega (arith, data_count config) in
    ap (λ (n : ℕ). take n (binds_of config) ++ acct_bind config ∷ []) three
    ∙ two_more (data_binds config) (auth_bind config) (acct_bind config) (end_binds_of config)
    ∙ ap (λ (n : ℕ). take n (binds_of config)) four

-- the front of a list, and then what comes after it
front_more : (front middle last : List Bind) (n : ℕ) → length front ≡ n → take n (front ++ (middle ++ last)) ++ middle ≡ take (n + length middle) (front ++ (middle ++ last))
front_more front middle last n count =
    ap (λ (bs : List Bind). bs ++ middle) (take_at front (middle ++ last) n count)
    ∙ sym (take_at (front ++ middle) last (n + length middle) (length-append front middle ∙ ap (λ (k : ℕ). k + length middle) count))
    ∙ ap (λ (bs : List Bind). take (n + length middle) bs) (append_assoc front middle last)

-- all before the end for tunnels
abbrev front_binds : Config → List Bind
front_binds config = data_binds config ++ auth_bind config ∷ acct_bind config ∷ []

front_count : (config : Config) → length (front_binds config) ≡ 4 + length config.access
front_count config =
    let servers : List Bind = auth_bind config ∷ acct_bind config ∷ [] in
    let two : length servers ≡ 2 = refl in
    omega (arith, length-append (data_binds config) servers, data_count config, two)

front_split : (config : Config) → front_binds config ++ end_binds_of config ≡ binds_of config
front_split config = append_assoc (data_binds config) (auth_bind config ∷ acct_bind config ∷ []) (end_binds_of config)

with_tunnel : (config : Config) → take (4 + length config.access) (binds_of config) ++ tunnel_binds config ≡ take (binds_before_coa config) (binds_of config)
with_tunnel config =
    ap (λ (bs : List Bind). take (4 + length config.access) bs ++ tunnel_binds config) (sym (front_split config))
    ∙ front_more (front_binds config) (tunnel_binds config) (coa_binds config) (4 + length config.access) (front_count config)
    ∙ ap (λ (bs : List Bind). take (binds_before_coa config) bs) (front_split config)

with_coa : (config : Config) → take (binds_before_coa config) (binds_of config) ++ coa_binds config ≡ take (binds_most config) (binds_of config)
with_coa config =
    let front : List Bind = front_binds config ++ tunnel_binds config in
    let split : front ++ coa_binds config ≡ binds_of config = append_assoc (front_binds config) (tunnel_binds config) (coa_binds config) ∙ front_split config in
    let count : length front ≡ binds_before_coa config = length-append (front_binds config) (tunnel_binds config) ∙ ap (λ (k : ℕ). k + length (tunnel_binds config)) (front_count config) in
    let all : length (binds_of config) ≤ binds_most config = omega (arith, ap (λ (bs : List Bind). length bs) split, length-append front (coa_binds config), count) in
    ap (λ (bs : List Bind). take (binds_before_coa config) bs ++ coa_binds config) (sym split)
    ∙ ap (λ (bs : List Bind). bs ++ coa_binds config) (take_at front (coa_binds config) (binds_before_coa config) count)
    ∙ split
    ∙ sym (take_all (binds_most config) (binds_of config) all)

next_after : (config : Config) (n m : ℕ) (b : Bind) (p₀ p₁ p₂ : PlantTold) → take n (binds_of config) ++ b ∷ [] ≡ take m (binds_of config) → Binds config n p₀ p₁ → Grows p₁.bound p₂.bound (b ∷ [])
    → p₂.heard ≡ p₁.heard → p₂.taken ≡ p₁.taken → p₂.sent ≡ p₁.sent → p₁.faults ≤ p₂.faults → Binds config m p₀ p₂
next_after config n m b p₀ p₁ p₂ next first bound heard taken sent later = record {
  bound = subst (λ (bs : List Bind). Grows p₀.bound p₂.bound bs) next (grows_more p₀.bound p₁.bound p₂.bound (take n (binds_of config)) (b ∷ []) first.bound bound);
  heard = heard ∙ first.heard;
  taken = taken ∙ first.taken;
  sent = sent ∙ first.sent;
  later = omega (arith, first.later, later);
}

pub auth_after : (config : Config) (p₀ p₁ p₂ : PlantTold) → Binds config (2 + length config.access) p₀ p₁ → Grows p₁.bound p₂.bound (record { role = Auth; local = config.auth_local } ∷ [])
    → p₂.heard ≡ p₁.heard → p₂.taken ≡ p₁.taken → p₂.sent ≡ p₁.sent → p₁.faults ≤ p₂.faults → Binds config (3 + length config.access) p₀ p₂
auth_after config p₀ p₁ p₂ first bound heard taken sent later = next_after config (2 + length config.access) (3 + length config.access) (auth_bind config) p₀ p₁ p₂ (with_auth config) first bound heard taken sent later

pub acct_after : (config : Config) (p₀ p₁ p₂ : PlantTold) → Binds config (3 + length config.access) p₀ p₁ → Grows p₁.bound p₂.bound (record { role = Acct; local = config.acct_local } ∷ [])
    → p₂.heard ≡ p₁.heard → p₂.taken ≡ p₁.taken → p₂.sent ≡ p₁.sent → p₁.faults ≤ p₂.faults → Binds config (4 + length config.access) p₀ p₂
acct_after config p₀ p₁ p₂ first bound heard taken sent later = next_after config (3 + length config.access) (4 + length config.access) (acct_bind config) p₀ p₁ p₂ (with_acct config) first bound heard taken sent later

end_after : (config : Config) (n m : ℕ) (role : Role) (local : Option Peer) (p₀ p₁ p₂ : PlantTold) → take n (binds_of config) ++ end_binds role local ≡ take m (binds_of config) → Binds config n p₀ p₁ → BindsEnd role local p₁ p₂ → Binds config m p₀ p₂
end_after config n m role local p₀ p₁ p₂ next first then = record {
  bound = subst (λ (bs : List Bind). Grows p₀.bound p₂.bound bs) next (grows_more p₀.bound p₁.bound p₂.bound (take n (binds_of config)) (end_binds role local) first.bound then.bound);
  heard = then.heard ∙ first.heard;
  taken = then.taken ∙ first.taken;
  sent = then.sent ∙ first.sent;
  later = omega (arith, first.later, then.later);
}

pub tunnel_after : (config : Config) (p₀ p₁ p₂ : PlantTold) → Binds config (4 + length config.access) p₀ p₁ → BindsEnd Tunnel config.tunnel_local p₁ p₂ → Binds config (binds_before_coa config) p₀ p₂
tunnel_after config p₀ p₁ p₂ first then = end_after config (4 + length config.access) (binds_before_coa config) Tunnel config.tunnel_local p₀ p₁ p₂ (with_tunnel config) first then

pub coa_after : (config : Config) (local : Option Peer) (p₀ p₁ p₂ : PlantTold) → local ≡ coa_local config.coa → Binds config (binds_before_coa config) p₀ p₁ → BindsEnd Coa local p₁ p₂ → Binds config (binds_most config) p₀ p₂
coa_after config local p₀ p₁ p₂ is first then =
    end_after config (binds_before_coa config) (binds_most config) Coa (coa_local config.coa) p₀ p₁ p₂ (with_coa config) first (subst (λ (l : Option Peer). BindsEnd Coa l p₁ p₂) is then)

-- nothing more was bound, and the count rose
pub next_fails : (config : Config) (n : ℕ) (p₀ p₁ p₂ : PlantTold) → Binds config n p₀ p₁ → Grows p₁.bound p₂.bound []
    → p₂.heard ≡ p₁.heard → p₂.taken ≡ p₁.taken → p₂.sent ≡ p₁.sent → p₁.faults ≤ p₂.faults → Rose p₁.faults p₂.faults → FailsToBind config n p₀ p₂
next_fails config n p₀ p₁ p₂ first bound heard taken sent later rose = record {
  before = record {
    bound = subst (λ (bs : List Bind). Grows p₀.bound p₂.bound bs) (append-nil (take n (binds_of config))) (grows_more p₀.bound p₁.bound p₂.bound (take n (binds_of config)) [] first.bound bound);
    heard = heard ∙ first.heard;
    taken = taken ∙ first.taken;
    sent = sent ∙ first.sent;
    later = omega (arith, first.later, later);
  };
  rose = rose_after p₀.faults p₁.faults p₂.faults first.later rose;
}

pub tunnel_fails : (config : Config) (p₀ p₁ p₂ : PlantTold) → Binds config (4 + length config.access) p₀ p₁ → FailsAtEnd Tunnel config.tunnel_local p₁ p₂ → FailsToBindTunnel config p₀ p₂
tunnel_fails config p₀ p₁ p₂ first f = record {
  there = f.there;
  fails = next_fails config (4 + length config.access) p₀ p₁ p₂ first f.before.bound f.before.heard f.before.taken f.before.sent f.before.later f.rose;
}

pub coa_fails : (config : Config) (local : Option Peer) (p₀ p₁ p₂ : PlantTold) → local ≡ coa_local config.coa → Binds config (binds_before_coa config) p₀ p₁ → FailsAtEnd Coa local p₁ p₂ → FailsToBindCoa config p₀ p₂
coa_fails config local p₀ p₁ p₂ is first f = record {
  there = subst IsSome is f.there;
  fails = next_fails config (binds_before_coa config) p₀ p₁ p₂ first f.before.bound f.before.heard f.before.taken f.before.sent f.before.later f.rose;
}

-- Such an end by itself: where there is none, nothing is bound
pub no_end : (role : Role) (end : Option Peer) (p : PlantTold) → end ≡ None → BindsEnd role end p p
no_end role end p is = record {
  bound = subst (λ (t : Option Peer). Grows p.bound p.bound (end_binds role t)) (sym is) (grows_none p.bound);
  heard = refl;
  taken = refl;
  sent = refl;
  later = omega arith;
}

-- and where there is one, its bind is the only one
pub one_end : (role : Role) (end : Option Peer) (local : Peer) (answer : Bound) (p p' : PlantTold) → end ≡ Some local → answer ≡ Ok → Grows p.bound p'.bound (binds role local answer)
    → p'.heard ≡ p.heard → p'.taken ≡ p.taken → p'.sent ≡ p.sent → p.faults ≤ p'.faults → BindsEnd role end p p'
one_end role end local answer p p' is ok bound heard taken sent later = record {
  bound = subst (λ (t : Option Peer). Grows p.bound p'.bound (end_binds role t)) (sym is) (subst (λ (b : Bound). Grows p.bound p'.bound (binds role local b)) ok bound);
  heard = heard;
  taken = taken;
  sent = sent;
  later = later;
}

pub none_bound : (role : Role) (end : Option Peer) (local : Peer) (answer : Bound) (p p' : PlantTold) → end ≡ Some local → answer ≡ Failed → Grows p.bound p'.bound (binds role local answer)
    → p'.heard ≡ p.heard → p'.taken ≡ p.taken → p'.sent ≡ p.sent → p.faults ≤ p'.faults → Rose p.faults p'.faults → FailsAtEnd role end p p'
none_bound role end local answer p p' is failed bound heard taken sent later rose = record {
  there = subst IsSome (sym is) refl;
  before = record { bound = subst (λ (b : Bound). Grows p.bound p'.bound (binds role local b)) failed bound; heard = heard; taken = taken; sent = sent; later = later };
  rose = rose;
}

-- all roles were bound, and then the clock was read
abbrev pub is_bound : (config : Config) (p p' : PlantTold) (k k₁ k₂ : ClockTold) (now wall : ℕ) → Binds config (binds_most config) p p' → p'.faults ≡ p.faults
    → GrowsIfTold k.answers k₁.answers (Now now ∷ []) → GrowsIfTold k₁.answers k₂.answers (Wall wall ∷ []) → k₁.last ≡ now → k₂.last ≡ k₁.last → IsBound config p p' k k₂
is_bound config p p' k k₁ k₂ now wall binds unfailed read_now read_wall last_now last_wall = record {
  binds = binds;
  unfailed = unfailed;
  now = now;
  wall = wall;
  read = grows_if_told_more k.answers k₁.answers k₂.answers (Now now ∷ []) (Wall wall ∷ []) read_now read_wall;
  last = last_wall ∙ last_now;
}
