-- The laws of the module `running` that name its private types.
-- Assumes nothing.
mod Reading
