-- The moments of the packets of sessions, by the entries of a journal.
use Rattle.std.proofs.Common.{◌≡◌, inl, inr, ℕ, ◌%◌, Bool, true, false, List, [], ◌∷◌, Some, sym, ap, subst, ◌∙◌, arith}
use Rattle.std.specs.Prelude.{slice_index_or, slice_set}
use Rattle.std.proofs.lemmas.Bool.{cases_eq}
use Rattle.std.proofs.lemmas.List.{get_or-set_same, get_or-set_other, get_or-replicate}
use Rattle.bng_base.specs.declared.address.SessionNo.{SessionNo}
use Rattle.bng_base.specs.declared.book.Profile.{Profile}
use Rattle.bng_base.specs.declared.fate.Fate.TheVariants.{Forwarded}
use Rattle.bng_base.specs.declared.ipv4.Ipv4.{Ipv4}
use Rattle.bng_base.specs.declared.settings.Static.{Static}
use Rattle.bng_sessions.specs.Sessions.{IsNumberOf}
use Rattle.bng_term.specs.Runs.{last_of}
use Rattle.bng_steps.specs.declared.meters.Meters.{Meters}
use Rattle.bng_steps.specs.declared.rules.Rules.{Rules}
use Rattle.bng_steps.specs.declared.session.Session.{Session}
use Rattle.bng_steps.specs.Course.{Asks, Course, Handles, Move, Settles, Stands}
use Rattle.bng_steps.specs.Deed.{Deed}
use Rattle.bng_steps.specs.Frames.{HearsData, HearsPacket}
use Rattle.bng_steps.specs.Opening.{opened_slots}
use Rattle.bng_steps.specs.Passing.{passed_at, place_in}
use Rattle.bng_steps.specs.Silence.{Moments, Passes, left_by}
use Rattle.bng_steps.specs.State.{State, holder_of, settled}
use Rattle.bng_steps.specs.Step.{Step}
use Rattle.bng_steps.specs.Tenures.{Tenure}
use Rattle.bng_steps.proofs.Colours.{apart_places, data_of, number_is, packet_of, settled_stands, shard_kept, step_stands}
use Rattle.bng_steps.proofs.Noting.{Noted, Stays, Passes as PassesOne, Starts, Changes, step_noted}
use Rattle.bng_steps.proofs.Values.{same_some}

-- the moment that is kept of the session with this number
abbrev pub kept : ℕ → State → ℕ
kept n s = slice_index_or s.passed (n % 1024) 0

-- One entry ----------------------------------------------------------------------------------------------------------------

module _ (r : Rules) (s : State) (limited : Bool) (d : Deed) (n : ℕ) (stands : Stands s) where
  put_here : (x : Session) → x.number.0 ≡ n → slice_index_or (slice_set s.passed (place_in x.number) d.entry.moment) (n % 1024) 0 ≡ d.entry.moment
  put_here x same =
      ap (λ (k : ℕ). slice_index_or (slice_set s.passed (place_in x.number) d.entry.moment) (k % 1024) 0) (sym same)
      ∙ get_or-set_same s.passed (place_in x.number) d.entry.moment 0 (omega (arith, stands.passed))

  up_passed : (x : Session) (info : List ℕ) → x.number.0 ≡ n → d.fate ≡ Forwarded → HearsData r s d.entry (Some x) info d → kept n d.next ≡ d.entry.moment
  up_passed x info same fate (f, row, inl (goes, h)) =
      let its : h.x.number.0 ≡ n = ap (λ (y : Session). y.number.0) (sym (same_some x h.x h.there)) ∙ same in
      ap (λ (g : Deed). kept n g.next) h.done ∙ put_here h.x its
  up_passed x info same fate (f, row, inr (stays, h)) = absurd (stays (sym (ap (λ (g : Deed). g.fate) h) ∙ fate))

  down_passed : (x : Session) (v : Ipv4) → holder_of s v.dst ≡ Some x → x.number.0 ≡ n → d.fate ≡ Forwarded → HearsPacket r s d.entry v d → kept n d.next ≡ d.entry.moment
  down_passed x v held same fate (f, row, inl (goes, h)) =
      let its : h.x.number.0 ≡ n = ap (λ (y : Session). y.number.0) (sym (same_some x h.x (sym held ∙ h.found))) ∙ same in
      ap (λ (g : Deed). kept n g.next) h.done ∙ put_here h.x its
  down_passed x v held same fate (f, row, inr (stays, h)) = absurd (stays (sym (ap (λ (g : Deed). g.fate) h) ∙ fate))

  passed_here : Step r s limited d → Passes n r s d → kept n d.next ≡ d.entry.moment
  passed_here h (true, offer, asks) =
      let (info, from, reads) = asks.crosses in
      up_passed asks.session info asks.number asks.fate (data_of r s limited d n stands d.entry.item.kind asks.session info from h.hears)
  passed_here h (false, offer, asks) =
      let (reads, held, hears) = packet_of r s limited d n stands d.entry.item.kind asks.session asks.header asks.crosses h.hears in
      down_passed asks.session asks.header held asks.number asks.fate hears

  none_passed_noted : IsNumberOf s.sessions.shard n → ¬ (Passes n r s d) → Noted r s d → kept n d.next ≡ kept n s
  none_passed_noted number none (Stays same) = ap (λ (p : List Meters × (List ℕ × List Tenure)). slice_index_or p.1.0 (n % 1024) 0) same
  none_passed_noted number none (PassesOne way k x v at asks is) =
      ap (kept n) is ∙ elim (cases_eq x.number.0 n) [
        | inr differ ↦
            get_or-set_other s.passed (place_in x.number) (n % 1024) d.entry.moment 0
            (λ e. apart_places s.sessions.shard x.number.0 n (number_is s k x stands at) number differ (sym e))
        | inl same ↦ absurd (none (way, (d.entry.moment, v.total), subst (λ (m : ℕ). Asks way m r s d (d.entry.moment, v.total) false) same asks))
      ]
  none_passed_noted number none (Starts k x plan term at session profile is same) = ap (λ (p : List Meters × (List ℕ × List Tenure)). slice_index_or p.1.0 (n % 1024) 0) same
  none_passed_noted number none (Changes f place at recasts same) = ap (λ (p : List Meters × (List ℕ × List Tenure)). slice_index_or p.1.0 (n % 1024) 0) same

-- A journal ----------------------------------------------------------------------------------------------------------------

along : (ms : List Move) (r : Rules) (n : ℕ) (s : State) (moments : List ℕ) → Stands s → IsNumberOf s.sessions.shard n → Course r s ms → Moments n r s ms moments → kept n (left_by s ms) ≡ last_of (kept n s) moments
along [] r n s moments stands number course is = ap (last_of (kept n s)) (sym is)
along (Settles ∷ ms) r n s moments stands number course is = along ms r n (settled s) moments (settled_stands s stands) number course.1 is
along (Handles limited d ∷ ms) r n s moments stands number course (inl (passes, more, rest, are)) =
    along ms r n d.next more (step_stands r s limited d course.0 stands) (subst (λ (k : ℕ). IsNumberOf k n) (sym (shard_kept r s limited d course.0)) number) course.1 rest
    ∙ ap (λ (m : ℕ). last_of m more) (passed_here r s limited d n stands course.0 passes)
    ∙ ap (last_of (kept n s)) (sym are)
along (Handles limited d ∷ ms) r n s moments stands number course (inr (none, rest)) =
    along ms r n d.next moments (step_stands r s limited d course.0 stands) (subst (λ (k : ℕ). IsNumberOf k n) (sym (shard_kept r s limited d course.0)) number) course.1 rest
    ∙ ap (λ (m : ℕ). last_of m moments) (none_passed_noted r s limited d n stands number none (step_noted r s limited d course.0))

pub moments_along : (r : Rules) (s : State) (n : SessionNo) (moves : List Move) (moments : List ℕ) → Stands s → IsNumberOf s.sessions.shard n.0 → Course r s moves → Moments n.0 r s moves moments
    → passed_at (left_by s moves).passed n ≡ last_of (passed_at s.passed n) moments
moments_along r s n moves moments stands number course are = along moves r n.0 s moments stands number course are

pub none_at_opening : (number : ℕ) (profiles : List Profile) (circuits : List Static) (now : ℕ) (n : SessionNo) → passed_at (opened_slots number profiles circuits now).passed n ≡ 0
none_at_opening number profiles circuits now n = get_or-replicate 1024 (n.0 % 1024) 0 0 (omega arith)
