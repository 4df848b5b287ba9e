-- `charge_tables::known_charges` meets its contract: the memo has the row, or `rule_charges` writes it. Assumes nothing.
use Rattle.charge.proofs.Laws.Tables.{Entry, entry}
use Rattle.charge_tables.proofs.RowCharges.{gives-known}
use Rattle.charge_tables.proofs.known_charges.Goals as goal

-- the row in the memo
row_at-2 : (s : goal.After-slice_known-2-1-unread) → Entry s.args.memo.now s.args.r
row_at-2 s = entry s.requires.0.tables s.requires.0.memo s.args.r s.requires.1

pub returns-then-memo-r-ne0 : goal.returns-then-memo-r-ne0
returns-then-memo-r-ne0 c =
    gives-known c.requires.0.tables c.requires.0.memo c.if-memo-r-ne0.true

pub bounds-memo-r : goal.bounds-memo-r
bounds-memo-r c = (row_at-2 c).inside
