-- What a scan of the tags says of the frame, and what each answer of a reader says of the octets.
use Rattle.std.proofs.Common.{◌≡◌, ℕ, ◌≤◌, Bool, true, false, Option, None, Some, Result, Ok, Err, List, length, refl, sym, ap, subst, ◌∙◌, arith}
use Rattle.std.specs.Prelude.{IfSome, IsOkAnd, MatchResult, ◌↔◌, find, ◌==◌}
use Rattle.std.specs.Option.{option_map}
use Rattle.bng_base.specs.declared.address.Mac.{Mac}
use Rattle.bng_base.specs.declared.codec.ReadError.{ReadError}
use Rattle.bng_base.specs.declared.codec.ReadError.TheVariants.{Outside, TooMany}
use Rattle.bng_base.specs.PppoeGrammar.{PppoeFrame, PppoeTag, AreTags, AsksOneService, IsDiscovery, IsLaidOut, IsPppoe, HasFewTags, HasManyTags, ether_type, host_uniq}
use Rattle.bng_pppoe_wire.specs.declared.view.Pppoe.{Pppoe}
use Rattle.bng_pppoe_wire.specs.View.{frame_of}
use Rattle.bng_pppoe_wire.specs.Scan.{scan_of}
use Rattle.bng_pppoe_wire.specs.Frame.{AsksOf, IsRight, WhyNot}
use Rattle.bng_pppoe_wire.proofs.TagLaws.{one_tags}

host_back : (found : Option PppoeTag) → IfSome (option_map (λ (t : PppoeTag). length t.value) found) (λ n. n ≤ 64) → IfSome found (λ t. length t.value ≤ 64)
host_back None h = h
host_back (Some t) h = h

host_on : (found : Option PppoeTag) → IfSome found (λ t. length t.value ≤ 64) → IfSome (option_map (λ (t : PppoeTag). length t.value) found) (λ n. n ≤ 64)
host_on None h = h
host_on (Some t) h = h

pub right_discovery : (p : PppoeFrame) (ts : List PppoeTag) → AreTags ts p.payload → IsRight p.code p.session (scan_of ts) → IsDiscovery p
right_discovery p ts listed right = record {
  tags = ts;
  listed = listed;
  session = right.session;
  asks = λ q. let a = right.asks q in record { service = a.service; host = host_back (find (λ t. t.kind == host_uniq) ts) a.host };
}

asks_scan : (ts : List PppoeTag) → AsksOneService ts → AsksOf (scan_of ts)
asks_scan ts a = record { service = a.service; host = host_on (find (λ t. t.kind == host_uniq) ts) a.host }

pub discovery_right : (p : PppoeFrame) (ts : List PppoeTag) → AreTags ts p.payload → IsDiscovery p → IsRight p.code p.session (scan_of ts)
discovery_right p ts listed d =
    let same : d.tags ≡ ts = one_tags d.tags ts p.payload d.listed listed in
    record { session = d.session; asks = λ q. asks_scan ts (subst AsksOneService same (d.asks q)) }

same_mac : (a b : Mac) → a.0 ≡ b.0 → a ≡ b
same_mac a b e = let made : List ℕ → Mac = λ l. record { 0 = l } in ap made e

same_stage : (a b : Bool) → ether_type a ≡ ether_type b → a ≡ b
same_stage true true e = refl
same_stage false false e = refl
same_stage true false e = absurd (omega (arith, e))
same_stage false true e = absurd (omega (arith, e))

-- octets are laid out as one frame
pub one_layout : (p q : PppoeFrame) (bytes : List ℕ) → IsLaidOut p bytes → IsLaidOut q bytes → p ≡ q
one_layout p q bytes x y =
    let made : Mac → Mac → Bool → ℕ → ℕ → List ℕ → PppoeFrame = λ d s v c i l. record { dst = d; src = s; discovery = v; code = c; session = i; payload = l } in
    ap (λ (d : Mac). made d p.src p.discovery p.code p.session p.payload) (same_mac p.dst q.dst (x.dst ∙ sym y.dst))
    ∙ ap (λ (s : Mac). made q.dst s p.discovery p.code p.session p.payload) (same_mac p.src q.src (x.src ∙ sym y.src))
    ∙ ap (λ (v : Bool). made q.dst q.src v p.code p.session p.payload) (same_stage p.discovery q.discovery (sym x.ether_type ∙ y.ether_type))
    ∙ ap (λ (c : ℕ). made q.dst q.src q.discovery c p.session p.payload) (x.code ∙ sym y.code)
    ∙ ap (λ (i : ℕ). made q.dst q.src q.discovery q.code i p.payload) (x.session ∙ sym y.session)
    ∙ ap (made q.dst q.src q.discovery q.code q.session) (x.payload ∙ sym y.payload)

-- tags are few or many, and not both
pub few_or_many : (p q : PppoeFrame) (bytes : List ℕ) → IsPppoe p bytes → IsPppoe q bytes → HasManyTags p → HasFewTags q → ⊥
few_or_many p q bytes x y many few =
    let same : p ≡ q = one_layout p q bytes x.laid y.laid in
    let kept = few (sym (ap (λ (f : PppoeFrame). f.discovery) same) ∙ many.discovery) in
    let listed : AreTags many.tags q.payload = subst (λ (f : PppoeFrame). AreTags many.tags f.payload) same many.listed in
    omega (arith, many.many, kept.2, ap length (one_tags many.tags kept.0 q.payload listed kept.1))

abbrev Answer : List ℕ → Result Pppoe ReadError → Type 0
Answer bytes r = MatchResult r (λ p. IsPppoe (frame_of p) bytes × HasFewTags (frame_of p)) (λ e. WhyNot e bytes)

pub only_frame : (bytes : List ℕ) (r : Result Pppoe ReadError) → Answer bytes r → (p : PppoeFrame) → IsPppoe p bytes → HasFewTags p → IsOkAnd r (λ q. frame_of q ≡ p)
only_frame bytes (Ok v) h p is few = one_layout (frame_of v) p bytes h.0.laid is.laid
only_frame bytes (Err Outside) h p is few = absurd (h p is)
only_frame bytes (Err TooMany) h p is few = absurd (few_or_many h.0 p bytes h.1 is h.2 few)

pub too_many_iff : (bytes : List ℕ) (r : Result Pppoe ReadError) → Answer bytes r → (r ≡ Err TooMany) ↔ ((p : PppoeFrame) × IsPppoe p bytes × HasManyTags p)
too_many_iff bytes (Ok v) h = (λ e. absurd cc, λ w. absurd (few_or_many w.0 (frame_of v) bytes w.1 h.0 w.2 h.1))
too_many_iff bytes (Err Outside) h = (λ e. absurd cc, λ w. absurd (h w.0 w.1))
too_many_iff bytes (Err TooMany) h = (λ _. h, λ _. refl)
