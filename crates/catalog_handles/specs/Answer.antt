-- What is replied to an op after a history, and the histories that there are.
use Rattle.std.specs.Prelude.{◌≡◌, ℕ, ◌+◌, if◌then◌else◌, [], ◌∷◌, Option, None, Some}
use Rattle.generations.specs.Making as generations
use Rattle.catalog_handles.specs.declared.handle.CatalogHandle.{CatalogHandle}
use Rattle.catalog_handles.specs.declared.setting.CatalogSetting.{CatalogSetting}
use Rattle.catalog_handles.specs.declared.op.CatalogRefusal.{CatalogRefusal}
use Rattle.catalog_handles.specs.declared.op.CatalogRefusal.TheVariants.{NeverMade, Stale, TooMany}
use Rattle.catalog_handles.specs.Entry.{Op, Open, Get, Close, Reply, Opened, Book, Closed, Refused, Entry, History}
use Rattle.catalog_handles.specs.History.{makings, made, live, book, makes, free_row}

-- what is against the use of a handle: no entry made it, or it was closed
abbrev pub against : History → CatalogHandle → Option CatalogRefusal
against H h = if made H h then (if live H h then None else Some Stale) else Some NeverMade

-- the refusal where there is one, else the reply
abbrev pub unless : Option CatalogRefusal → Reply → Reply
unless (Some refusal) reply = Refused refusal
unless None reply = reply

-- a new handle of the thread in its free row, with the next generation of the row
abbrev pub opened_in : History → ℕ → Option ℕ → Reply
opened_in H t None = Refused TooMany
opened_in H t (Some r) = Opened (record { owner = t; row = r; generation = makes H t r + 1 })

-- the answer to thread t's op after the history
abbrev pub answer : CatalogSetting → History → ℕ → Op → Reply
answer c H t (Open number) = opened_in H t (free_row c H t)
answer c H t (Get h) = unless (against H h) (Book (book H h))
answer c H t (Close h) = unless (against H h) Closed

-- the entry of a call, with the reply that it gets, and a stamp
abbrev pub entry : CatalogSetting → History → ℕ → Op → ℕ → Entry
entry c H t op stamp = record { who = t; op = op; reply = answer c H t op; stamp = stamp }

-- a legal history: the reply of each entry is the answer at what came before it
abbrev pub IsLegal : CatalogSetting → History → Type 0
IsLegal c [] = Unit {0}
IsLegal c (e ∷ H) = (e.reply ≡ answer c H e.who e.op) × IsLegal c H

-- the callers of a history are among the first n threads
abbrev pub AreThreads : ℕ → History → Type 0
AreThreads n H = generations.AreThreads n (makings H)
