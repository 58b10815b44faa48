-- The grant of octets is one.
use Rattle.std.proofs.Common.{◌≡◌, ℕ, List, Option, Some, sym, ap, subst, ◌∙◌, arith}
use Rattle.std.specs.Prelude.{take}
use Rattle.bng_radius_wire.specs.Attributes.{Field}
use Rattle.bng_radius_wire.specs.Grammar.{Packet, attributes_text}
use Rattle.bng_radius_wire.proofs.Exact.{one_packet}
use Rattle.bng_grant.specs.Classes.{classes, AreKept}
use Rattle.bng_grant.specs.Grants.{Gift, Gives, IsGrant, Replied, NoReply}

one_class : (fs : List Field) (x y : List ℕ) → AreKept fs x → AreKept fs y → x ≡ y
one_class fs x y a b =
    let same : a.count ≡ b.count = omega (arith, b.most.longest a.count a.most.there a.most.room, a.most.longest b.count b.most.there b.most.room) in
    a.whole ∙ ap (λ (n : ℕ). attributes_text (take n (classes fs))) same ∙ sym b.whole

one_gift : (fs : List Field) (g h : Gift) → Gives fs g → Gives fs h → g ≡ h
one_gift fs g h a b =
    let made : Option (List ℕ) → Option (List ℕ) → Option ℕ → ℕ → ℕ → Option ℕ → List ℕ → Gift =
    λ profile pool address session idle interim class. record { profile = profile; pool = pool; address = address; session_timeout = session; idle_timeout = idle; interim = interim; class = class } in
    ap (λ (x : Option (List ℕ)). made x g.pool g.address g.session_timeout g.idle_timeout g.interim g.class) (a.profile ∙ sym b.profile)
    ∙ ap (λ (x : Option (List ℕ)). made h.profile x g.address g.session_timeout g.idle_timeout g.interim g.class) (a.pool ∙ sym b.pool)
    ∙ ap (λ (x : Option ℕ). made h.profile h.pool x g.session_timeout g.idle_timeout g.interim g.class) (a.address ∙ sym b.address)
    ∙ ap (λ (x : ℕ). made h.profile h.pool h.address x g.idle_timeout g.interim g.class) (a.session_timeout ∙ sym b.session_timeout)
    ∙ ap (λ (x : ℕ). made h.profile h.pool h.address h.session_timeout x g.interim g.class) (a.idle_timeout ∙ sym b.idle_timeout)
    ∙ ap (λ (x : Option ℕ). made h.profile h.pool h.address h.session_timeout h.idle_timeout x g.class) (a.interim ∙ sym b.interim)
    ∙ ap (made h.profile h.pool h.address h.session_timeout h.idle_timeout h.interim) (one_class fs g.class h.class a.class b.class)

pub one_grant : (octets : List ℕ) (a b : Option Gift) → IsGrant octets a → IsGrant octets b → a ≡ b
one_grant octets a b (Replied p reply g gives is) (Replied q reply' h gives' is') =
    let same = one_packet p q octets reply.packet reply'.packet in
    is ∙ ap (λ (x : Gift). Some x) (one_gift q.attributes g h (subst (λ (r : Packet). Gives r.attributes g) same gives) gives') ∙ sym is'
one_grant octets a b (Replied p reply g gives is) (NoReply never is') = absurd (never p reply)
one_grant octets a b (NoReply never is) (Replied q reply' h gives' is') = absurd (never q reply')
one_grant octets a b (NoReply never is) (NoReply never' is') = is ∙ sym is'
