-- Records that are formed of terms, some after others.
use Rattle.std.proofs.Common.{◌≡◌, inl, inr, ⊎_elim, ℕ, List, [], ◌∷◌, ◌++◌, map, refl, sym, ap, subst, ◌∙◌}
use Rattle.bng_acct.specs.declared.facts.Moment.{Moment}
use Rattle.bng_acct.specs.declared.facts.StatusType.TheVariants.{Start, Stop as OfStop}
use Rattle.bng_acct.specs.declared.facts.TermFacts.{TermFacts}
use Rattle.bng_base.specs.declared.book.Book.{Book}
use Rattle.bng_base.specs.Books.{empty_book}
use Rattle.bng_base.proofs.ChainLaws.{chain_append}
use Rattle.bng_billing.specs.Records.{IsFormedBy}
use Rattle.bng_billing.specs.State.{BillingState}
use Rattle.bng_engine.specs.Lists.{AnyOf}
use Rattle.bng_engine.specs.Terms.{Key, Stop}
use Rattle.bng_engine.proofs.Everywhere.{any_either, any_left, any_right}
use Rattle.bng_steps.specs.Protocol.{SaysOf}
use Rattle.bng_steps.specs.Tenures.{LeavesTerms, Tenure}
use Rattle.bng_desk.specs.declared.accounts.Stopped.{Stopped}
use Rattle.bng_desk.specs.Accounting.{AreFactsOf, FormedRecord, Forms, IsStartOf, IsStopOf}
use Rattle.bng_desk.specs.Model.{line_after}
use Rattle.bng_desk.specs.Taking.{Accounts, BooksStarts, BooksStops, plus_stops}
use Rattle.bng_desk.proofs.InAll.{stopped_none, stopped_more}
use Rattle.bng_desk.proofs.Lines.{lines_none, lines_more}
use Rattle.bng_desk.proofs.Parts.{zip_append, zip_weaker}

forms_append : (a b c : BillingState) (xs ys : List FormedRecord) → Forms a xs b → Forms b ys c → Forms a (xs ++ ys) c
forms_append a b c xs ys = chain_append (λ s (f : FormedRecord) s'. IsFormedBy s f.status f.facts f.moment f.number s') a b c xs ys

-- Some of the terms -------------------------------------------------------------------------------------------------------

-- what is said of one of these terms is said of one of those
abbrev pub AreAmong : List Tenure → List Tenure → Type 0
AreAmong ts us = (user class : List ℕ) (began : ℕ) (k : Key) → AnyOf (SaysOf user class began k) ts → AnyOf (SaysOf user class began k) us

pub among_left : (ts us : List Tenure) → AreAmong ts (ts ++ us)
among_left ts us user class began k any = any_left (SaysOf user class began k) ts us any

pub among_right : (ts us : List Tenure) → AreAmong us (ts ++ us)
among_right ts us user class began k any = any_right (SaysOf user class began k) ts us any

-- those between others
pub among_between : (front here back : List Tenure) → AreAmong here (front ++ (here ++ back))
among_between front here back user class began k any = among_right front (here ++ back) user class began k (among_left here back user class began k any)

-- those that stay, once one has left
pub among_left_by : (ts ts' : List Tenure) (t : Tenure) → LeavesTerms ts ts' t → AreAmong ts' ts
among_left_by ts ts' t l user class began k any =
    let P = SaysOf user class began k in
    subst (λ (us : List Tenure). AnyOf P us) (sym l.were)
    (⊎_elim (λ (here : AnyOf P l.before). any_left P l.before (t ∷ l.after) here) (λ (there : AnyOf P l.after). any_right P l.before (t ∷ l.after) (inr there))
    (any_either P l.before l.after (subst (λ (us : List Tenure). AnyOf P us) l.are any)))

-- and the one that has left was one of them
pub leaver_says : (ts ts' : List Tenure) (t : Tenure) (user class : List ℕ) (began : ℕ) (k : Key) → LeavesTerms ts ts' t → SaysOf user class began k t → AnyOf (SaysOf user class began k) ts
leaver_says ts ts' t user class began k l says =
    let P = SaysOf user class began k in
    subst (λ (us : List Tenure). AnyOf P us) (sym l.were) (any_right P l.before (t ∷ l.after) (inl says))

pub facts_wider : (ts us : List Tenure) (k : Key) (book : Book) (f : TermFacts) → AreAmong ts us → AreFactsOf ts k book f → AreFactsOf us k book f
facts_wider ts us k book f among are = record {
  term = are.term;
  circuit = are.circuit;
  address = are.address;
  says = among f.user.items f.class.items f.began k are.says;
  carried = are.carried;
}

stop_wider : (ts us : List Tenure) (moment wall : ℕ) → AreAmong ts us → (s : Stop) (f : FormedRecord) → IsStopOf ts moment wall s f → IsStopOf us moment wall s f
stop_wider ts us moment wall among s f is = record { status = is.status; facts = facts_wider ts us s.key s.carried f.facts among is.facts; at = is.at }

start_wider : (ts us : List Tenure) (moment wall : ℕ) → AreAmong ts us → (k : Key) (f : FormedRecord) → IsStartOf ts moment wall k f → IsStartOf us moment wall k f
start_wider ts us moment wall among k f is = record { status = is.status; facts = facts_wider ts us k empty_book f.facts among is.facts; at = is.at }

-- Stops -------------------------------------------------------------------------------------------------------------------

pub books_none : (terms : List Tenure) (moment wall : ℕ) (a : Accounts) → BooksStops terms moment wall [] a a
books_none terms moment wall a = record { formed = []; forms = refl; are_stops = tt; lines_are = lines_none a.lines; stopped_is = stopped_none a.stopped; reports_are = refl }

pub books_one : (terms : List Tenure) (moment wall n : ℕ) (s : Stop) (facts : TermFacts) (at : Moment) (a a' : Accounts) → AreFactsOf terms s.key s.carried facts → at ≡ record { now = moment; wall = wall; cause = s.cause }
    → IsFormedBy a.billing OfStop facts at n a'.billing → a'.lines ≡ map (line_after (s ∷ [])) a.lines → a'.stopped ≡ plus_stops a.stopped (s ∷ []) → a'.reports ≡ a.reports → BooksStops terms moment wall (s ∷ []) a a'
books_one terms moment wall n s facts at a a' are when formed lines stopped reports = record {
  formed = record { status = OfStop; facts = facts; moment = at; number = n } ∷ [];
  forms = (a'.billing, formed, refl);
  are_stops = (record { status = refl; facts = are; at = when }, tt);
  lines_are = lines;
  stopped_is = stopped;
  reports_are = reports;
}

-- of more terms
pub books_wider : (ts us : List Tenure) (moment wall : ℕ) (ss : List Stop) (a a' : Accounts) → AreAmong ts us → BooksStops ts moment wall ss a a' → BooksStops us moment wall ss a a'
books_wider ts us moment wall ss a a' among b = record {
  formed = b.formed;
  forms = b.forms;
  are_stops = zip_weaker (IsStopOf ts moment wall) (IsStopOf us moment wall) (stop_wider ts us moment wall among) ss b.formed b.are_stops;
  lines_are = b.lines_are;
  stopped_is = b.stopped_is;
  reports_are = b.reports_are;
}

-- some, and then more
pub books_more : (terms : List Tenure) (moment wall : ℕ) (ss ts : List Stop) (a b c : Accounts) → BooksStops terms moment wall ss a b → BooksStops terms moment wall ts b c → BooksStops terms moment wall (ss ++ ts) a c
books_more terms moment wall ss ts a b c x y = record {
  formed = x.formed ++ y.formed;
  forms = forms_append a.billing b.billing c.billing x.formed y.formed x.forms y.forms;
  are_stops = zip_append (IsStopOf terms moment wall) ss ts x.formed y.formed x.are_stops y.are_stops;
  lines_are = y.lines_are ∙ ap (map (line_after ts)) x.lines_are ∙ sym (lines_more ss ts a.lines);
  stopped_is = y.stopped_is ∙ ap (λ (t : Stopped). plus_stops t ts) x.stopped_is ∙ sym (stopped_more ss ts a.stopped);
  reports_are = y.reports_are ∙ x.reports_are;
}

-- Starts ------------------------------------------------------------------------------------------------------------------

pub starts_none : (terms : List Tenure) (moment wall : ℕ) (a : Accounts) → BooksStarts terms moment wall [] a a
starts_none terms moment wall a = record { formed = []; forms = refl; are_starts = tt; lines_are = refl; stopped_is = refl; reports_are = refl }

pub starts_one : (terms : List Tenure) (moment wall n : ℕ) (k : Key) (facts : TermFacts) (at : Moment) (a a' : Accounts) → AreFactsOf terms k empty_book facts → at ≡ record { now = moment; wall = wall; cause = 0 }
    → IsFormedBy a.billing Start facts at n a'.billing → a'.lines ≡ a.lines → a'.stopped ≡ a.stopped → a'.reports ≡ a.reports → BooksStarts terms moment wall (k ∷ []) a a'
starts_one terms moment wall n k facts at a a' are when formed lines stopped reports = record {
  formed = record { status = Start; facts = facts; moment = at; number = n } ∷ [];
  forms = (a'.billing, formed, refl);
  are_starts = (record { status = refl; facts = are; at = when }, tt);
  lines_are = lines;
  stopped_is = stopped;
  reports_are = reports;
}

pub starts_wider : (ts us : List Tenure) (moment wall : ℕ) (ks : List Key) (a a' : Accounts) → AreAmong ts us → BooksStarts ts moment wall ks a a' → BooksStarts us moment wall ks a a'
starts_wider ts us moment wall ks a a' among b = record {
  formed = b.formed;
  forms = b.forms;
  are_starts = zip_weaker (IsStartOf ts moment wall) (IsStartOf us moment wall) (start_wider ts us moment wall among) ks b.formed b.are_starts;
  lines_are = b.lines_are;
  stopped_is = b.stopped_is;
  reports_are = b.reports_are;
}

pub starts_more : (terms : List Tenure) (moment wall : ℕ) (js ks : List Key) (a b c : Accounts) → BooksStarts terms moment wall js a b → BooksStarts terms moment wall ks b c → BooksStarts terms moment wall (js ++ ks) a c
starts_more terms moment wall js ks a b c x y = record {
  formed = x.formed ++ y.formed;
  forms = forms_append a.billing b.billing c.billing x.formed y.formed x.forms y.forms;
  are_starts = zip_append (IsStartOf terms moment wall) js ks x.formed y.formed x.are_starts y.are_starts;
  lines_are = y.lines_are ∙ x.lines_are;
  stopped_is = y.stopped_is ∙ x.stopped_is;
  reports_are = y.reports_are ∙ x.reports_are;
}
