-- Document 02, Req 03: a converted deck gives what the old one gave.
pub mod Keeps
